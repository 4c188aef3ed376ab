-- `calendar::year_day` meets its contract: the year that is estimated begins no later than the day, and the next but one behind it. Assumes nothing.
use Rattle.std.proofs.Common.{◌≡◌, ℕ, ◌+◌, ◌-◌, ◌*◌, ◌/◌, sym, ap, arith}
use Rattle.calendar.specs.Dates.{days_of, year_length, year_day}
use Rattle.calendar.proofs.Estimate.{not_behind, not_far, year_at}
use Rattle.calendar.proofs.year_day.Goals as goal

pub returns-then-next-day : goal.returns-then-next-day
returns-then-next-day c =
    let n = c.args.day in
    let y = (n - 2) * 400 / 146097 in
    let start = c.days_before-next.ensures in
    let a : y + 1 + 1 ≡ y + 2 = omega arith in
    let e : year_day n ≡ (y + 1, n - days_of year_length 0 (y + 1)) =
    year_at n (y + 1) (omega (arith, start, c.if-next-day.true)) (rw a (not_far n (omega arith))) in
    (sym (ap (λ (p : ℕ × ℕ). p.0) e), rw start (sym (ap (λ (p : ℕ × ℕ). p.1) e)))

pub returns-else-next-day : goal.returns-else-next-day
returns-else-next-day c =
    let n = c.args.day in
    let y = (n - 2) * 400 / 146097 in
    let e : year_day n ≡ (y, n - days_of year_length 0 y) =
    year_at n y (not_behind n (omega arith)) (omega (arith, c.days_before-next.ensures, c.if-next-day.false)) in
    (sym (ap (λ (p : ℕ × ℕ). p.0) e), rw c.days_before.ensures (sym (ap (λ (p : ℕ × ℕ). p.1) e)))
