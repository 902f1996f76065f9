use Rattle.awk_ere.proofs.Gathering.{led_by}
use Rattle.awk_ere.proofs.closure.find_led.Goals as goal

pub returns-clause-led : goal.returns-clause-led
returns-clause-led c = led_by _ _ _ _ _ _ c.in_ok-lead.ensures.led c.in_ok-find_marked.ensures
