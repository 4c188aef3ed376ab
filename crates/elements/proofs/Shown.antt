-- What is answered and left of a text, and of a number that stops the call. Assumes nothing.
use Rattle.std.specs.Prelude.{Err, Ok}
use mathlib.Core.Path.{◌≡◌, sym, ap, ◌∙◌}
use mathlib.Core.List.{List}
use Prim.Native.Nat.{ℕ, ◌^◌, ◌<◌}
use Rattle.writing.specs.Writers.{laid_if_room, Put}
use Rattle.writing.proofs.Laid.{none-laid}
use Rattle.elements.specs.Texts.{Shown, Text, Stops, text_of}
use Rattle.elements.specs.Sizes.{Sized, size_of}
use Rattle.refusals.specs.declared.Refusal.{Refusal}

module _ (d : List ℕ) (x : Shown) where
  pub sized_text : (t : List ℕ) (r : ℕ) (out : List ℕ) → x ≡ Text t → Put d t r out × (r < 2 ^ 42) → Sized d x (Ok r) out
  sized_text t r out e p =
      record {
        size = ap Ok p.0.0 ∙ sym (ap size_of e);
        below = p.1;
        bytes = p.0.1 ∙ ap (λ (y : Shown). laid_if_room d (text_of y)) (sym e);
      }

  pub sized_stop : (refusal : Refusal) → x ≡ Stops refusal → Sized d x (Err refusal) d
  sized_stop refusal e =
      record { size = sym (ap size_of e); below = tt; bytes = sym (ap (λ (y : Shown). laid_if_room d (text_of y)) e ∙ none-laid d) }

pub ruleset shown = (sized_text, sized_stop, none-laid)
