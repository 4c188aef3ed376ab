-- Rounding of a fraction, and its digits without trailing zeros.
use Rattle.std.specs.Prelude.{ℕ, zero, suc, ◌+◌, ◌*◌, ◌/◌, ◌%◌, ltb, eqb}
use Rattle.writing.specs.Choose.{choose}

-- The whole number nearest to x / u; where two are as near, the even one. 01: "rounded to nearest, ties to even".
unfoldable pub nearest_to : ℕ → ℕ → ℕ
nearest_to x u =
    choose (ltb (x % u * 2) u) (λ _. x / u)
    (λ _. choose (ltb u (x % u * 2)) (λ _. x / u + 1) (λ _. x / u + x / u % 2))

-- How many of the k lowest hexadecimal digits of x are left without its trailing zeros. 01: "trailing zeros removed, at least one digit".
unfoldable pub kept_digits : ℕ → ℕ → ℕ
kept_digits zero x = 0
kept_digits (suc zero) x = 1
kept_digits (suc (suc k)) x = choose (eqb (x % 16) 0) (λ _. kept_digits (suc k) (x / 16)) (λ _. suc (suc k))
