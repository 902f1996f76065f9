use Rattle.std.proofs.Common.{refl}
use Rattle.awk_forms.proofs.Leading.{quietly}
use Rattle.awk_store.proofs.Leading.{jumped}
use Rattle.awk_streams.proofs.Chain.{at_once, done}
use Rattle.awk_eval.proofs.statements.jump.Goals as goal

pub returns-in-Break-clause-task : goal.returns-in-Break-clause-task
returns-in-Break-clause-task g c = λ m. rw c.in-Break.is (done (quietly (at_once _ _ _) (λ k hid d a. refl)))

pub returns-in-Continue-clause-task : goal.returns-in-Continue-clause-task
returns-in-Continue-clause-task g c = λ m. rw c.in-Continue.is (done (quietly (at_once _ _ _) (λ k hid d a. refl)))

pub returns-in-Next-clause-task : goal.returns-in-Next-clause-task
returns-in-Next-clause-task g c = λ m. rw c.in-Next.is (jumped _ (c.next.ensures m c.args.run.now.streams))

pub returns-in-NextFile-clause-task : goal.returns-in-NextFile-clause-task
returns-in-NextFile-clause-task g c = λ m. rw c.in-NextFile.is (c.next_file.ensures.task m)
