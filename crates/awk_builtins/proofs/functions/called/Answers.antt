use Rattle.std.proofs.Common.{ap, refl, rules, w64}
use Rattle.std.proofs.lemmas.Int.{to_z-of_z}
use Rattle.std.specs.Prelude.{None, true, false}
use Rattle.awk_lib.specs.Texts.{to_case}
use Rattle.awk_machine.specs.Builtins as builtin
use Rattle.awk_machine.specs.Pieces.{Close, Run, give}
use Rattle.awk_numbers.specs.Functions.{arc_tangent, cosine, exponential, logarithm, sine, square_root}
use Rattle.awk_numbers.specs.Random.{advanced, drawn}
use Rattle.awk_text.specs.Values.{of_number}
use Rattle.awk_program.specs.declared.builtins.Builtin.TheVariants as b
use Rattle.awk_streams.proofs.Chain.{passes}
use Rattle.awk_store.proofs.Acting.{acted}
use Rattle.awk_text.specs.declared.value.Value.TheVariants as v
use Rattle.awk_builtins.proofs.Called.{flushes, gives_made, gives_of_one, gives_value, grants_made}
use Rattle.awk_builtins.proofs.Called.{leaves_task, turns}
use Rattle.awk_builtins.proofs.Granted.{owned_so}
use Rattle.awk_builtins.proofs.functions.called.Goals as goal

pub returns-in-Close-clause-task : goal.returns-in-Close-clause-task
returns-in-Close-clause-task g c = λ m xs e.
    rw c.in-Close.is (passes (leaves_task m (c.args.store.now, c.args.streams.now) c.args.place b.Close xs
    c.args.args.now e
    (Close c.args.place (builtin.text_at c.args.args.now 0) None) c.args.world.now (λ s. refl))
    (rw c.argument-in-Close.ensures at (c.close.ensures.task m c.args.store.now)))

pub returns-in-Fflush-clause-task : goal.returns-in-Fflush-clause-task
returns-in-Fflush-clause-task g c = λ m xs e.
    rw c.in-Fflush.is (acted (flushes m (c.args.store.now, c.args.streams.now) c.args.place xs
    c.args.args.now e c.flush.result (rw c.argument-in-Fflush.ensures at c.flush.ensures)))

pub returns-in-Index-clause-task : goal.returns-in-Index-clause-task
returns-in-Index-clause-task g c = λ m xs e.
    rw (
      c.in-Index.is,
      to_z-of_z w64 c.index_of.result (search rules),
      c.index_of.ensures,
      c.argument-in-Index.ensures,
      c.argument-in-Index-2.ensures,
    )
    (acted (gives_value m (c.args.store.now, c.args.streams.now) c.args.place b.Index xs
    c.args.args.now e _ (λ s. refl)))

pub returns-in-Int-clause-task : goal.returns-in-Int-clause-task
returns-in-Int-clause-task g c = λ m xs e.
    rw (
      c.in-Int.is,
      c.number_at-in-Int.ensures,
      c.whole_number.ensures,
      c.argument-in-Int.ensures,
      c.numbers-numbers.ensures,
    )
    (acted (gives_made m (c.args.store.now, c.args.streams.now) c.args.place b.Int xs c.args.args.now e
    (builtin.whole_number c.args.store.now.numbers (builtin.argument c.args.args.now 0)) (λ s same. rw same refl)))

pub returns-in-Length-clause-task : goal.returns-in-Length-clause-task
returns-in-Length-clause-task g c = λ m xs e.
    rw (
      c.in-Length.is,
      to_z-of_z w64 c.text_length.result (search rules),
      c.text_length.ensures,
      c.argument-in-Length.ensures,
    )
    (acted (gives_value m (c.args.store.now, c.args.streams.now) c.args.place b.Length xs
    c.args.args.now e _ (λ s. refl)))

pub returns-in-Sprintf-clause-task : goal.returns-in-Sprintf-clause-task
returns-in-Sprintf-clause-task g c = λ m xs e. rw c.in-Sprintf.is
    (acted (c.sprintf.ensures m c.args.streams.now xs e))

pub returns-in-Substr-clause-task : goal.returns-in-Substr-clause-task
returns-in-Substr-clause-task g c = λ m xs e. rw c.in-Substr.is
    (acted (c.substr_in.ensures m (c.args.store.now, c.args.streams.now) xs c.numbers-numbers.ensures e))

pub returns-in-System-clause-task : goal.returns-in-System-clause-task
returns-in-System-clause-task g c = λ m xs e.
    rw c.in-System.is (passes (leaves_task m (c.args.store.now, c.args.streams.now) c.args.place b.System xs
    c.args.args.now e
    (Run c.args.place (builtin.text_at c.args.args.now 0)) c.args.world.now (λ s. refl))
    (rw c.argument-in-System.ensures at (c.run.ensures.task m c.args.store.now c.args.streams.now)))

pub returns-in-System-clause-owns : goal.returns-in-System-clause-owns
returns-in-System-clause-owns g c = rw c.run.ensures.numbers c.requires

pub returns-in-Tolower-clause-task : goal.returns-in-Tolower-clause-task
returns-in-Tolower-clause-task g c = λ m xs e.
    rw c.in-Tolower.is (acted (owned_so m (c.args.store.now, c.args.streams.now) _ c.args.place give _
    (v.Text (to_case false (builtin.text_at c.args.args.now 0))) c.in_case.result refl
    (rw c.argument-in-Tolower.ensures at c.in_case.ensures.ok) c.in_case.ensures.err
    (grants_made m (c.args.store.now, c.args.streams.now) c.args.place b.Tolower xs
    c.args.args.now e _ (λ s same. refl))))

pub returns-in-Toupper-clause-task : goal.returns-in-Toupper-clause-task
returns-in-Toupper-clause-task g c = λ m xs e.
    rw c.in-Toupper.is (acted (owned_so m (c.args.store.now, c.args.streams.now) _ c.args.place give _
    (v.Text (to_case true (builtin.text_at c.args.args.now 0))) c.in_case-in-Toupper.result refl
    (rw c.argument-in-Toupper.ensures at c.in_case-in-Toupper.ensures.ok) c.in_case-in-Toupper.ensures.err
    (grants_made m (c.args.store.now, c.args.streams.now) c.args.place b.Toupper xs
    c.args.args.now e _ (λ s same. refl))))

pub returns-in-Atan2-clause-task : goal.returns-in-Atan2-clause-task
returns-in-Atan2-clause-task g c = λ m xs e.
    rw (
      c.in-Atan2.is,
      c.number_at.ensures,
      c.arc_tangent_of.ensures,
      c.argument.ensures,
      c.argument-in-Atan2.ensures,
      c.numbers-numbers.ensures,
    )
    (acted (gives_made m (c.args.store.now, c.args.streams.now) c.args.place b.Atan2 xs c.args.args.now e
    (builtin.of_two arc_tangent c.args.store.now.numbers (builtin.argument c.args.args.now 0)
    (builtin.argument c.args.args.now 1)) (λ s same. rw same refl)))

pub returns-in-Cos-clause-task : goal.returns-in-Cos-clause-task
returns-in-Cos-clause-task g c = λ m xs e.
    rw (
      c.in-Cos.is,
      c.number_at-in-Cos.ensures,
      c.cosine_of.ensures,
      c.argument-in-Cos.ensures,
      c.numbers-numbers.ensures,
    )
    (acted (gives_of_one m (c.args.store.now, c.args.streams.now) c.args.place b.Cos xs
    c.args.args.now e cosine (λ s. refl)))

pub returns-in-Exp-clause-task : goal.returns-in-Exp-clause-task
returns-in-Exp-clause-task g c = λ m xs e.
    rw (
      c.in-Exp.is,
      c.number_at-in-Exp.ensures,
      c.exponential_of.ensures,
      c.argument-in-Exp.ensures,
      c.numbers-numbers.ensures,
    )
    (acted (gives_of_one m (c.args.store.now, c.args.streams.now) c.args.place b.Exp xs
    c.args.args.now e exponential (λ s. refl)))

pub returns-in-Log-clause-task : goal.returns-in-Log-clause-task
returns-in-Log-clause-task g c = λ m xs e.
    rw (
      c.in-Log.is,
      c.number_at-in-Log.ensures,
      c.logarithm_of.ensures,
      c.argument-in-Log.ensures,
      c.numbers-numbers.ensures,
    )
    (acted (gives_of_one m (c.args.store.now, c.args.streams.now) c.args.place b.Log xs
    c.args.args.now e logarithm (λ s. refl)))

pub returns-in-Sin-clause-task : goal.returns-in-Sin-clause-task
returns-in-Sin-clause-task g c = λ m xs e.
    rw (
      c.in-Sin.is,
      c.number_at-in-Sin.ensures,
      c.sine_of.ensures,
      c.argument-in-Sin.ensures,
      c.numbers-numbers.ensures,
    )
    (acted (gives_of_one m (c.args.store.now, c.args.streams.now) c.args.place b.Sin xs
    c.args.args.now e sine (λ s. refl)))

pub returns-in-Sqrt-clause-task : goal.returns-in-Sqrt-clause-task
returns-in-Sqrt-clause-task g c = λ m xs e.
    rw (
      c.in-Sqrt.is,
      c.number_at-in-Sqrt.ensures,
      c.square_root_of.ensures,
      c.argument-in-Sqrt.ensures,
      c.numbers-numbers.ensures,
    )
    (acted (gives_of_one m (c.args.store.now, c.args.streams.now) c.args.place b.Sqrt xs
    c.args.args.now e square_root (λ s. refl)))

pub returns-in-Rand-clause-task : goal.returns-in-Rand-clause-task
returns-in-Rand-clause-task g c = λ m xs e.
    rw (c.in-Rand.is, c.of.ensures, c.draw.ensures.value)
    (acted (turns m (c.args.store.now, c.args.streams.now) c.args.place b.Rand xs c.args.args.now e
    (of_number (drawn c.args.store.now.random)) (advanced c.args.store.now.random) c.draw.new.self c.draw.ensures.after
    (λ s of_ random. ap builtin.draws random)))

pub returns-in-Srand-clause-task : goal.returns-in-Srand-clause-task
returns-in-Srand-clause-task g c = λ m xs e. rw c.in-Srand.is (acted (c.srand.ensures m c.args.streams.now xs e))
