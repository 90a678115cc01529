-- `ring_word::is_ring` meets its contract: the bytes of the word are compared one by one. Assumes nothing.
use mathlib.Core.Bool.{and_assoc, and-true, and-false}
use mathlib.Core.List.{List, [], ◌∷◌}
use mathlib.Core.Path.{◌≡◌, refl}
use Prim.Native.Nat.{ℕ}
use native.Mathlib.Omega.{arith}
use borrow.Author.Tests.{ne_eqb}
use lib.ListN.{length}
use lib.Pointwise.{pointwise}
use Rattle.std.specs.Prelude.{nat_eq}
use Rattle.ring_word.specs.Words.{is_ring}
use Rattle.ring_word.proofs.is_ring.Goals as goal

compared : (word : List ℕ) → pointwise nat_eq word (45 ∷ 45 ∷ 114 ∷ 105 ∷ 110 ∷ 103 ∷ []) ≡ is_ring word
unfolding is_ring
compared [] = refl
compared (a ∷ []) = simp and-false
compared (a ∷ b ∷ []) = simp and-false
compared (a ∷ b ∷ d ∷ []) = simp and-false
compared (a ∷ b ∷ d ∷ e ∷ []) = simp and-false
compared (a ∷ b ∷ d ∷ e ∷ f ∷ []) = simp and-false
compared (a ∷ b ∷ d ∷ e ∷ f ∷ g ∷ []) = simp (and_assoc, and-true)
compared (a ∷ b ∷ d ∷ e ∷ f ∷ g ∷ h ∷ more) =
    rw (ne_eqb (length (a ∷ b ∷ d ∷ e ∷ f ∷ g ∷ h ∷ more)) 6 (λ e. absurd (omega arith))) (simp and-false)

pub returns : goal.returns
returns c = rw (c.eq.ensures, c.as_slice.ensures) (compared c.args.word.now)
