-- `calendar::moment_of` meets its contract. Assumes nothing.
use Rattle.calendar.proofs.Epoch.{the_moment}
use Rattle.calendar.proofs.moment_of.Goals as goal

pub returns : goal.returns
returns c =
    let s = c.seconds_of-seconds.ensures in
    let y = c.year_day-year.ensures in
    let m = c.month_day-month.ensures in
    let l = c.is_leap.ensures in
    the_moment _ _ _ _ _ _ _ _ s.0 s.1 y.0 y.1 l m.0 m.1
