-- The proleptic Gregorian calendar: the rule of leap years and the lengths of the months, on every year from 0 on.
use Rattle.std.specs.Prelude.{ℕ, zero, suc, ◌+◌, ◌-◌, ◌%◌, ◌≤◌, ◌≡◌, Bool, true, false, [], ◌∷◌, eqb, ltb, get_or}
use Rattle.writing.specs.Choose.{choose}

-- Of the full hundreds those are leap years that 400 divides, of all other years those that 4 divides.
unfoldable pub is_leap : ℕ → Bool
is_leap y = choose (eqb (y % 100) 0) (λ _. eqb (y % 400) 0) (λ _. eqb (y % 4) 0)

abbrev pub february : Bool → ℕ
february true = 29
february false = 28

-- The lengths of the months in days, January at 0.
abbrev pub month_length : Bool → ℕ → ℕ
month_length leap m = get_or (31 ∷ february leap ∷ 31 ∷ 30 ∷ 31 ∷ 30 ∷ 31 ∷ 31 ∷ 30 ∷ 31 ∷ 30 ∷ 31 ∷ []) m 0

-- The days of so many years or months, one behind the other from the first on.
unfoldable pub days_of : (ℕ → ℕ) → ℕ → ℕ → ℕ
days_of len first zero = 0
days_of len first (suc n) = len first + days_of len (first + 1) n

-- A year has twelve months.
unfoldable pub year_length : ℕ → ℕ
year_length y = days_of (month_length (is_leap y)) 0 12

pub record Date : Type 0 where
  pub year : ℕ
  pub month : ℕ
  pub day : ℕ

-- A date is a year, a month from 1 to 12, and a day of this month.
pub record IsDate (d : Date) : Type 0 where
  pub from_january : 1 ≤ d.month
  pub to_december : d.month ≤ 12
  pub from_first : 1 ≤ d.day
  pub to_last : d.day ≤ month_length (is_leap d.year) (d.month - 1)

-- The days from the first of January of the year 0 to a date: its years, its months and its days added up.
unfoldable pub day_number : Date → ℕ
day_number d = days_of year_length 0 d.year + days_of (month_length (is_leap d.year)) 0 (d.month - 1) + (d.day - 1)

-- Takes whole years, or months, off n days, from the first on, f at most: the one in which the days run out, and how many of its days lie before.
unfoldable pub count_off : (ℕ → ℕ) → ℕ → ℕ → ℕ → ℕ × ℕ
count_off len zero first n = (first, n)
count_off len (suc f) first n = choose (ltb n (len first)) (λ _. (first, n)) (λ _. count_off len f (first + 1) (n - len first))

-- The year of a day, and the days of the year before it. No year is shorter than a day, so n steps suffice.
unfoldable pub year_day : ℕ → ℕ × ℕ
year_day n = count_off year_length n 0 n

abbrev pub month_day : Bool → ℕ → ℕ × ℕ
month_day leap k = count_off (month_length leap) 12 0 k

abbrev pub in_year : ℕ × ℕ → Date
in_year (y, k) = record { year = y; month = (month_day (is_leap y) k).0 + 1; day = (month_day (is_leap y) k).1 + 1 }

-- The date of a day. It is the only one with this day number (`the_only_date` in proofs/Only).
unfoldable pub date_of : ℕ → Date
date_of n = in_year (year_day n)

-- That a date is the only one with the day number n.
pub record OnlyDate (n : ℕ) (d : Date) : Type 0 where
  pub valid : IsDate d
  pub numbered : day_number d ≡ n
  pub only : (other : Date) → IsDate other → day_number other ≡ n → other ≡ d
