-- `strip_format::put_floats` meets its contract: each float's bytes join those before. Assumes nothing.
use Rattle.std.proofs.Common.{◌≡◌, ℕ, ◌+◌, ◌*◌, ◌≤◌, ◌<◌, List, [], ◌∷◌, ◌++◌, length, get_or, take, drop, refl, sym, ap, ◌∙◌, append_assoc, append-nil, add-one, arith, length-append, length-take-le, take_all, take-append-drop, rules}
use Rattle.std.proofs.Math.Seq.{take-suc}
use Rattle.std.specs.Prelude.{Float}
use Rattle.bits.specs.Floats.{pattern_of}
use Rattle.strip_format.specs.Fields.{big_endian}
use Rattle.strip_format.specs.Steps.{floats_bytes}
use Rattle.strip_format.specs.Laws.Steps.{joins}
use Rattle.strip_format.proofs.put_floats.Goals as goal

-- four bytes for each
four_each : (xs : List Float) → length (floats_bytes xs) ≡ 4 * length xs
unfolding floats_bytes big_endian
four_each [] = refl
four_each (x ∷ xs) = let rest = four_each xs in omega arith

-- one float more
one_more : (xs : List Float) (x : Float) → floats_bytes (xs ++ (x ∷ [])) ≡ floats_bytes xs ++ big_endian 4 (pattern_of x)
unfolding floats_bytes big_endian
one_more [] x = refl
one_more (y ∷ xs) x = ap (λ (rest : List ℕ). big_endian 4 (pattern_of y) ++ rest) (one_more xs x)

further : (o out out' : List ℕ) (xs : List Float) (at i place : ℕ) (d : Float) → i < length xs → at ≤ length o → place ≡ at + 4 * i
    → out ≡ take at o ++ floats_bytes (take i xs) ++ drop place o
    → out' ≡ take place out ++ big_endian 4 (pattern_of (get_or xs i d)) ++ drop (place + 4) out
    → out' ≡ take at o ++ floats_bytes (take (i + 1) xs) ++ drop (place + 4) o
further o out out' xs at i place d l h p e f =
    let before = floats_bytes (take i xs) in
    let this = big_endian 4 (pattern_of (get_or xs i d)) in
    let as_long : length (take at o ++ before) ≡ place = rw (length-append, four_each, length-take-le at o h, length-take-le i xs (omega arith)) (omega arith) in
    let with_it : floats_bytes (take (i + 1) xs) ≡ before ++ this = rw (add-one i, take-suc xs i d l) (one_more (take i xs) (get_or xs i d)) in
    f
    ∙ ap (λ (x : List ℕ). take place x ++ this ++ drop (place + 4) x) e
    ∙ joins (take at o ++ before) this o place 4 (place + 4) as_long refl
    ∙ ap (λ (x : List ℕ). x ++ drop (place + 4) o) (append_assoc (take at o) before this ∙ ap (λ (x : List ℕ). take at o ++ x) (sym with_it))

pub loop-x-init : goal.loop-x-init
unfolding floats_bytes
loop-x-init c = record { place = omega arith; out = rw append-nil (sym (take-append-drop c.args.at c.args.out.now)) }

pub loop-x-preserved : goal.loop-x-preserved
loop-x-preserved c =
    let l = c.loop-x in
    let five : length c.args.floats ≡ 5 = search rules in
    record {
      place = omega arith;
      out = further c.args.out.now l.out _ c.args.floats c.args.at l.x-index l.place _ (omega arith) (omega arith) l.invariant.place l.invariant.out c.put_float.ensures;
    }

-- all five
all_five : (o out : List ℕ) (xs : List Float) (at i place : ℕ) → length xs ≡ 5 → 5 ≤ i → i ≤ 5 → place ≡ at + 4 * i
    → out ≡ take at o ++ floats_bytes (take i xs) ++ drop place o → out ≡ take at o ++ floats_bytes xs ++ drop (at + 20) o
all_five o out xs at i place f m n p e =
    let whole : take i xs ≡ xs = take_all i xs (omega arith) in
    let end : place ≡ at + 20 = omega arith in
    e ∙ rw (whole, end)

pub returns : goal.returns
returns c =
    let l = c.loop-x in
    let five : length c.args.floats ≡ 5 = search rules in
    all_five c.args.out.now l.out c.args.floats c.args.at l.x-index l.place five (omega arith) (omega arith) l.invariant.place l.invariant.out
