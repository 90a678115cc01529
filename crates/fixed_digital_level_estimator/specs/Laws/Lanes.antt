-- Four lanes find what one would: none of what they found is more than n units from zero exactly where no sample is, for each n. So the peak is
-- that of the samples, since two magnitudes with the same units are the same. And where a sum is a number, each sample is.
-- Assumes nothing.
use Rattle.std.specs.Prelude.{◌≡◌, ◌⊎◌, Bool, not, cond, List, [], ◌∷◌, ◌++◌, ℕ, zero, suc, ◌+◌, ◌-◌, ◌*◌, ◌≤◌, ◌<◌, ℤ, pos, T, length, get_or}
use Rattle.std.proofs.Math.Path.{refl, ap}
use Rattle.std.proofs.Common.{sym, ◌∙◌, subst, inl, inr, le_antisymm, le_trans, le_of_eq, lt_of_le_of_lt, add-zero, zero-add, suc-ne-zero, arith, lit<}
use Rattle.std.proofs.Math.Bool.{true, false}
use Rattle.std.specs.Bool.{beq}
use Rattle.std.proofs.Math.Nat.{suc_inj}
use Rattle.std.specs.Float.Ieee.{Float, fin, binary32, fits, lt, of_bits, add, sub, neg, size as bits}
use Rattle.std.specs.Float.{nan, inf}
use Rattle.std.specs.Float.Ieee.Scale.{finite}
use Rattle.lists.specs.Each.{Each, each_append, each_so}
use Rattle.rounding.specs.Units.{P, N, U, size, Number, rnd}
use Rattle.rounding.specs.Loops.{Within}
use Rattle.rounding.specs.Laws.Whole.{sides, P-limit}
use Rattle.rounding.specs.Laws.Rnd.{rnd_mono}
use Rattle.rounding.specs.Laws.Operations.{add_rounds}
use Rattle.rounding.specs.Laws.Exact.{constant_number}
use Rattle.rounding.specs.Laws.Same.{same_number, some_size, zero_exponent}
use Rattle.rounding.specs.Laws.Order.{lt→units, not-lt→units}
use Rattle.floats.specs.Choice.{larger, smaller}
use Rattle.floats.specs.Kinds.{magnitude}
use Rattle.floats.specs.Laws.Kinds.{nought, larger_side}
use Rattle.frames.specs.Squares.{without_sign}
use Rattle.fixed_digital_level_estimator.specs.Envelope.{peak_from}
use Rattle.fixed_digital_level_estimator.specs.Range.{Held}
use Rattle.fixed_digital_level_estimator.specs.Lanes.{Plain, Upper, Lower, Signed, Below, Real, Small, Raised, bound, most, peak}
use Rattle.fixed_digital_level_estimator.specs.Lanes.{Lanes}

-- ---- two magnitudes with the same units are the same
pub none_below : (x : Float) → N (magnitude x) ≡ 0
unfolding N magnitude
none_below nan = refl
none_below (inf s) = refl
none_below (fin s m e) = refl

no_sign : (m : ℕ) (e : ℤ) → N (fin false m e) ≡ 0
unfolding N
no_sign m e = refl

no_units : (e : ℤ) → T (fits binary32 (fin false zero e)) → P (fin false zero e) ≡ 0
unfolding P size U
no_units e t = subst (λ (d : ℤ). P (fin false zero d) ≡ 0) (sym (zero_exponent false e t)) refl

some_units : (m : ℕ) (e : ℤ) → T (fits binary32 (fin false (suc m) e)) → 0 < P (fin false (suc m) e) + N (fin false (suc m) e)
unfolding P N
some_units m e t = let h = some_size false m e t in omega arith

apart : (m : ℕ) (e d : ℤ) → T (fits binary32 (fin false zero e)) → T (fits binary32 (fin false (suc m) d)) → P (fin false zero e) ≡ P (fin false (suc m) d) → ⊥
apart m e d s t h =
    let z = no_units e s in
    let n : 0 < P (fin false (suc m) d) + N (fin false (suc m) d) = some_units m d t in
    let o : N (fin false (suc m) d) ≡ 0 = no_sign (suc m) d in
    omega arith

alike : (x y : Float) → Number (magnitude x) → Number (magnitude y) → P (magnitude x) ≡ P (magnitude y) → magnitude x ≡ magnitude y
unfolding magnitude
alike nan y h k e = absurd h.real
alike (inf s) y h k e = absurd h.real
alike (fin s m e) nan h k p = absurd k.real
alike (fin s m e) (inf t) h k p = absurd k.real
alike (fin s zero e) (fin t zero d) h k p = ap (λ (i : ℤ). fin false zero i) (zero_exponent false e h.held ∙ sym (zero_exponent false d k.held))
alike (fin s zero e) (fin t (suc n) d) h k p = absurd (apart n e d h.held k.held p)
alike (fin s (suc m) e) (fin t zero d) h k p = absurd (apart m d e k.held h.held (sym p))
alike (fin s (suc m) e) (fin t (suc n) d) h k p =
    same_number (fin false (suc m) e) (fin false (suc n) d) h k p (no_sign (suc m) e ∙ sym (no_sign (suc n) d)) (some_units m e h.held)

same : (x y : Float) → Plain x → Plain y → P x ≡ P y → x ≡ y
same x y h k p =
    sym h.same
    ∙ alike x y (subst Number (sym h.same) h.number) (subst Number (sym k.same) k.number) (ap P h.same ∙ p ∙ sym (ap P k.same))
    ∙ k.same

-- ---- magnitudes
pub plain_magnitude : (x : Float) → Number x → Plain (magnitude x)
unfolding magnitude
plain_magnitude nan n = absurd n.real
plain_magnitude (inf s) n = absurd n.real
plain_magnitude (fin s m e) n = record { number = record { real = tt; held = without_sign s m e n.held }; same = refl }

pub magnitude_units : (x : Float) → P (magnitude x) ≡ P x + N x
unfolding magnitude P N size
magnitude_units nan = refl
magnitude_units (inf s) = refl
magnitude_units (fin true m e) = sym (zero-add _)
magnitude_units (fin false m e) = sym (add-zero _)

plain_upper : (x : Float) → Plain x → Upper x
plain_upper x h = record { number = h.number; side = sym (ap N h.same) ∙ none_below x }

-- what is above zero is a magnitude
plain_above : (x : Float) → Number x → 0 < P x → magnitude x ≡ x
unfolding magnitude P
plain_above nan n h = absurd n.real
plain_above (inf s) n h = absurd n.real
plain_above (fin true m e) n h = absurd (omega arith)
plain_above (fin false m e) n h = refl

below : (m : ℕ) (e : ℤ) → T (fits binary32 (fin true (suc m) e)) → N (fin true (suc m) e) ≡ N (fin false (suc m) e) → ⊥
unfolding N
below m e f i = let p = some_size true m e f in omega arith

above : (m : ℕ) (e : ℤ) → T (fits binary32 (fin false (suc m) e)) → P (fin false (suc m) e) ≡ 0 → ⊥
unfolding P
above m e f i = let p = some_size false m e f in omega arith

-- 0 - x of what is not above zero is its magnitude
pub turned : (x : Float) → Lower x → sub binary32 nought x ≡ magnitude x
unfolding magnitude
turned nan h = absurd h.number.real
turned (inf s) h = absurd h.number.real
turned (fin s zero e) h =
    subst (λ (d : ℤ). sub binary32 nought (fin s zero d) ≡ fin false zero d) (sym (zero_exponent s e h.number.held)) (closed s)
  where
    closed : (s : Bool) → sub binary32 nought (fin s zero (pos 0)) ≡ fin false zero (pos 0)
    closed true = unfold sub add neg of_bits in refl
    closed false = unfold sub add neg of_bits in refl
turned (fin true (suc m) e) h = unfold larger in go (lt (sub binary32 nought x) x) (larger_side x h.number.held)
  where
    x : Float
    x = fin true (suc m) e

    go : (b : Bool) → cond b x (sub binary32 nought x) ≡ fin false (suc m) e → sub binary32 nought x ≡ fin false (suc m) e
    go true k = absurd (below m e h.number.held (ap N k))
    go false k = k
turned (fin false (suc m) e) h = absurd (above m e h.number.held h.side)

pub plain_zero : Plain nought
unfolding magnitude of_bits
plain_zero = record { number = constant_number 0x0000_0000 tt; same = refl }

-- ---- the higher of two, and the lower
pub record Higher (x y z : Float) : Type 0 where
  pub upper : Upper z
  pub first : P x ≤ P z
  pub second : P y ≤ P z
  pub least : (n : ℕ) → P x ≤ n → P y ≤ n → P z ≤ n

pub higher : (x y : Float) → Number x → Upper y → Higher x y (larger x y)
unfolding larger
higher x y h k = go (lt x y) (sides x h).one (lt→units x y h k.number) (not-lt→units x y h k.number)
  where
    go : (b : Bool) → (P x ≡ 0) ⊎ (N x ≡ 0) → (T b → P x + N y < P y + N x) → (T (not b) → P y + N x ≤ P x + N y) → Higher x y (cond b y x)
    go true (inl z) f g = let l = f tt in let q = k.side in record { upper = k; first = omega arith; second = omega arith; least = λ (n : ℕ) (i : P x ≤ n) (j : P y ≤ n). j }
    go true (inr z) f g = let l = f tt in let q = k.side in record { upper = k; first = omega arith; second = omega arith; least = λ (n : ℕ) (i : P x ≤ n) (j : P y ≤ n). j }
    go false (inl z) f g =
        let l = g tt in
        let q = k.side in
        record { upper = record { number = h; side = omega arith }; first = omega arith; second = omega arith; least = λ (n : ℕ) (i : P x ≤ n) (j : P y ≤ n). i }
    go false (inr z) f g =
        let l = g tt in
        let q = k.side in
        record { upper = record { number = h; side = z }; first = omega arith; second = omega arith; least = λ (n : ℕ) (i : P x ≤ n) (j : P y ≤ n). i }

pub record Deeper (x y z : Float) : Type 0 where
  pub lower : Lower z
  pub first : N x ≤ N z
  pub second : N y ≤ N z
  pub least : (n : ℕ) → N x ≤ n → N y ≤ n → N z ≤ n

pub deeper : (x y : Float) → Number x → Lower y → Deeper x y (smaller x y)
unfolding smaller
deeper x y h k = go (lt y x) (sides x h).one (lt→units y x k.number h) (not-lt→units y x k.number h)
  where
    go : (b : Bool) → (P x ≡ 0) ⊎ (N x ≡ 0) → (T b → P y + N x < P x + N y) → (T (not b) → P x + N y ≤ P y + N x) → Deeper x y (cond b y x)
    go true (inl z) f g = let l = f tt in let q = k.side in record { lower = k; first = omega arith; second = omega arith; least = λ (n : ℕ) (i : N x ≤ n) (j : N y ≤ n). j }
    go true (inr z) f g = let l = f tt in let q = k.side in record { lower = k; first = omega arith; second = omega arith; least = λ (n : ℕ) (i : N x ≤ n) (j : N y ≤ n). j }
    go false (inl z) f g =
        let l = g tt in
        let q = k.side in
        record { lower = record { number = h; side = z }; first = omega arith; second = omega arith; least = λ (n : ℕ) (i : N x ≤ n) (j : N y ≤ n). i }
    go false (inr z) f g =
        let l = g tt in
        let q = k.side in
        record { lower = record { number = h; side = omega arith }; first = omega arith; second = omega arith; least = λ (n : ℕ) (i : N x ≤ n) (j : N y ≤ n). i }

-- ---- a sum
-- a sum is a number only where both are
pub both_real : (x y : Float) → T (finite (add binary32 x y)) → T (finite x) × T (finite y)
unfolding add
both_real nan y h = absurd h
both_real (inf s) nan h = absurd h
both_real (inf s) (inf t) h = absurd (go (beq s t) h)
  where
    go : (b : Bool) → T (finite (cond b (inf s) nan)) → ⊥
    go true k = k
    go false k = k
both_real (inf s) (fin t n d) h = absurd h
both_real (fin s m e) nan h = absurd h
both_real (fin s m e) (inf t) h = absurd h
both_real (fin s m e) (fin t n d) h = (tt, tt)

-- what is at most 2 ^ 50 stays so when a sample is added: the sum is rounded down to it
rounded : rnd (most + bound) 1 ≡ most
unfolding rnd P size U of_bits bits
rounded = refl

pub sum_small : (x y : Float) → Within most x → Within bound y → Within most (add binary32 x y)
sum_small x y h k =
    let p = stays (P x) (P y) (N x + N y) h.plus k.plus in
    let n = stays (N x) (N y) (P x + P y) h.minus k.minus in
    let small = P-limit (of_bits binary32 0x5880_0000) (constant_number 0x5880_0000 most_real) in
    let r = (add_rounds x y h.number k.number).value (lt_of_le_of_lt p small) (lt_of_le_of_lt n small) in
    record { number = r.number; plus = subst (λ (z : ℕ). z ≤ most) (sym r.plus) p; minus = subst (λ (z : ℕ). z ≤ most) (sym r.minus) n }
  where
    most_real : T (finite (of_bits binary32 0x5880_0000))
    most_real = unfold of_bits in tt

    stays : (p q m : ℕ) → p ≤ most → q ≤ bound → rnd (p + q - m) 1 ≤ most
    stays p q m i j = le_trans (rnd_mono (p + q - m) 1 (most + bound) 1 (lit< tt) (lit< tt) (under p q m most bound i j)) (le_of_eq rounded)
      where
        under : (p q m a b : ℕ) → p ≤ a → q ≤ b → (p + q - m) * 1 ≤ (a + b) * 1
        under p q m a b i j = omega arith

-- ---- the lanes raised by four samples, by one, by none, and by some and then others
-- a list of four is its elements
of_four : (xs : List Float) → length xs ≡ 4 → xs ≡ get_or xs 0 nan ∷ get_or xs 1 nan ∷ get_or xs 2 nan ∷ get_or xs 3 nan ∷ []
of_four [] e = absurd (suc-ne-zero 3 (sym e))
of_four (a ∷ []) e = absurd (suc-ne-zero 2 (sym (suc_inj e)))
of_four (a ∷ b ∷ []) e = absurd (suc-ne-zero 1 (sym (suc_inj (suc_inj e))))
of_four (a ∷ b ∷ c ∷ []) e = absurd (suc-ne-zero 0 (sym (suc_inj (suc_inj (suc_inj e)))))
of_four (a ∷ b ∷ c ∷ d ∷ []) e = refl
of_four (a ∷ b ∷ c ∷ d ∷ f ∷ xs) e = absurd (suc-ne-zero (length xs) (suc_inj (suc_inj (suc_inj (suc_inj e)))))

-- what holds of each of two lists
pub halves : (p : Float → Type 0) (xs ys : List Float) → Each p (xs ++ ys) → Each p xs × Each p ys
unfolding Each
halves p [] ys h = (tt, h)
halves p (x ∷ xs) ys h = let r = halves p xs ys h.1 in ((h.0, r.0), r.1)

pub raised_none : (l : Lanes) → Raised l [] l
unfolding Each
raised_none l =
    record {
      small = λ (h : Small l) (k : Each (Within bound) []). h;
      before = λ (h : Real l). h;
      found = λ (h : Real l) (g : Signed l).
          record {
            signed = g;
            up = λ (n : ℕ) (u : Below n l) (k : Each (Within n) []). u;
            down = λ (n : ℕ) (u : Below n l). (u, tt);
          };
    }

pub raised_more : (l m r : Lanes) (xs ys : List Float) → Raised l xs m → Raised m ys r → Raised l (xs ++ ys) r
raised_more l m r xs ys h k =
    record {
      small = λ (s : Small l) (e : Each (Within bound) (xs ++ ys)). let w = halves (Within bound) xs ys e in k.small (h.small s w.0) w.1;
      before = λ (t : Real r). h.before (k.before t);
      found = λ (t : Real r) (g : Signed l).
          let i = h.found (k.before t) g in
          let j = k.found t i.signed in
          record {
            signed = j.signed;
            up = λ (n : ℕ) (u : Below n l) (e : Each (Within n) (xs ++ ys)). let w = halves (Within n) xs ys e in j.up n (i.up n u w.0) w.1;
            down = λ (n : ℕ) (u : Below n r).
                let p = j.down n u in
                let q = i.down n p.0 in
                (q.0, each_append (Within n) xs ys q.1 p.1);
          };
    }

-- a lane's sample, where the lane's sum is a number
number : (s x : Float) → T (fits binary32 x) → T (finite (add binary32 s x)) → Number x
number s x f h = record { real = (both_real s x h).1; held = f }

-- and how far it is from zero, by what the lane found
module _ (n : ℕ) (x a e : Float) (X : Number x) where
  reached : Higher x a (larger x a) → Deeper x e (smaller x e) → P (larger x a) ≤ n → N (smaller x e) ≤ n → Within n x
  reached A E i j = record { number = X; plus = le_trans A.first i; minus = le_trans E.first j }

-- the first lane raised by a sample
abbrev pub by_one : Lanes → Float → Lanes
by_one l x =
    record {
      a = larger x l.a;
      b = l.b;
      c = l.c;
      d = l.d;
      e = smaller x l.e;
      f = l.f;
      g = l.g;
      h = l.h;
      s = add binary32 l.s x;
      t = l.t;
      u = l.u;
      v = l.v;
    }

pub raised_one : (l : Lanes) (x : Float) → T (fits binary32 x) → Raised l (x ∷ []) (by_one l x)
unfolding Each
raised_one l x f =
    record {
      small = λ (h : Small l) (k : Each (Within bound) (x ∷ [])). record { s = sum_small l.s x h.s k.0; t = h.t; u = h.u; v = h.v };
      before = λ (h : Real (by_one l x)). record { s = (both_real l.s x h.s).0; t = h.t; u = h.u; v = h.v };
      found = λ (h : Real (by_one l x)) (k : Signed l).
          let X = number l.s x f h.s in
          let A = higher x l.a X k.a in
          let E = deeper x l.e X k.e in
          record {
            signed = record { a = A.upper; b = k.b; c = k.c; d = k.d; e = E.lower; f = k.f; g = k.g; h = k.h };
            up = λ (n : ℕ) (u : Below n l) (w : Each (Within n) (x ∷ [])).
                record { a = A.least n w.0.plus u.a; b = u.b; c = u.c; d = u.d; e = E.least n w.0.minus u.e; f = u.f; g = u.g; h = u.h };
            down = λ (n : ℕ) (u : Below n (by_one l x)). (
              record { a = le_trans A.second u.a; b = u.b; c = u.c; d = u.d; e = le_trans E.second u.e; f = u.f; g = u.g; h = u.h },
              (reached n x l.a l.e X A E u.a u.e, tt),
            );
          };
    }

-- each lane raised by its sample
abbrev by_four : Lanes → Float → Float → Float → Float → Lanes
by_four l w x y z =
    record {
      a = larger w l.a;
      b = larger x l.b;
      c = larger y l.c;
      d = larger z l.d;
      e = smaller w l.e;
      f = smaller x l.f;
      g = smaller y l.g;
      h = smaller z l.h;
      s = add binary32 l.s w;
      t = add binary32 l.t x;
      u = add binary32 l.u y;
      v = add binary32 l.v z;
    }

four : (l : Lanes) (w x y z : Float) → T (fits binary32 w) → T (fits binary32 x) → T (fits binary32 y) → T (fits binary32 z)
    → Raised l (w ∷ x ∷ y ∷ z ∷ []) (by_four l w x y z)
unfolding Each
four l w x y z fw fx fy fz =
    record {
      small = λ (h : Small l) (k : Each (Within bound) (w ∷ x ∷ y ∷ z ∷ [])).
          record {
            s = sum_small l.s w h.s k.0;
            t = sum_small l.t x h.t k.1.0;
            u = sum_small l.u y h.u k.1.1.0;
            v = sum_small l.v z h.v k.1.1.1.0;
          };
      before = λ (h : Real (by_four l w x y z)).
          record { s = (both_real l.s w h.s).0; t = (both_real l.t x h.t).0; u = (both_real l.u y h.u).0; v = (both_real l.v z h.v).0 };
      found = λ (h : Real (by_four l w x y z)) (k : Signed l).
          let W = number l.s w fw h.s in
          let X = number l.t x fx h.t in
          let Y = number l.u y fy h.u in
          let Z = number l.v z fz h.v in
          let A = higher w l.a W k.a in
          let B = higher x l.b X k.b in
          let C = higher y l.c Y k.c in
          let D = higher z l.d Z k.d in
          let E = deeper w l.e W k.e in
          let F = deeper x l.f X k.f in
          let G = deeper y l.g Y k.g in
          let H = deeper z l.h Z k.h in
          record {
            signed = record { a = A.upper; b = B.upper; c = C.upper; d = D.upper; e = E.lower; f = F.lower; g = G.lower; h = H.lower };
            up = λ (n : ℕ) (u : Below n l) (i : Each (Within n) (w ∷ x ∷ y ∷ z ∷ [])).
                record {
                  a = A.least n i.0.plus u.a;
                  b = B.least n i.1.0.plus u.b;
                  c = C.least n i.1.1.0.plus u.c;
                  d = D.least n i.1.1.1.0.plus u.d;
                  e = E.least n i.0.minus u.e;
                  f = F.least n i.1.0.minus u.f;
                  g = G.least n i.1.1.0.minus u.g;
                  h = H.least n i.1.1.1.0.minus u.h;
                };
            down = λ (n : ℕ) (u : Below n (by_four l w x y z)). (
              record {
                a = le_trans A.second u.a;
                b = le_trans B.second u.b;
                c = le_trans C.second u.c;
                d = le_trans D.second u.d;
                e = le_trans E.second u.e;
                f = le_trans F.second u.f;
                g = le_trans G.second u.g;
                h = le_trans H.second u.h;
              },
              (
                reached n w l.a l.e W A E u.a u.e,
                (reached n x l.b l.f X B F u.b u.f, (reached n y l.c l.g Y C G u.c u.g, (reached n z l.d l.h Z D H u.d u.h, tt))),
              ),
            );
          };
    }

-- each lane raised by its sample of a block of four
abbrev pub by_block : Lanes → List Float → Lanes
by_block l xs = by_four l (get_or xs 0 nan) (get_or xs 1 nan) (get_or xs 2 nan) (get_or xs 3 nan)

pub raised_four : (l : Lanes) (xs : List Float) → length xs ≡ 4 → Held xs → Raised l xs (by_block l xs)
raised_four l xs e f =
    subst (λ (ys : List Float). Raised l ys (by_block l xs)) (sym (of_four xs e)) (four l (get_or xs 0 nan) (get_or xs 1 nan) (get_or xs 2 nan) (get_or xs 3 nan) (f 0) (f 1) (f 2) (f 3))

-- ---- the peak of the lanes
module _ (l : Lanes) (g : Signed l) where
  abbrev high : Float
  high = larger (larger (larger l.a l.b) l.c) l.d

  abbrev low : Float
  low = smaller (smaller (smaller l.e l.f) l.g) l.h

  two_high : Higher l.a l.b (larger l.a l.b)
  two_high = higher l.a l.b g.a.number g.b

  three_high : Higher (larger l.a l.b) l.c (larger (larger l.a l.b) l.c)
  three_high = higher (larger l.a l.b) l.c two_high.upper.number g.c

  all_high : Higher (larger (larger l.a l.b) l.c) l.d high
  all_high = higher (larger (larger l.a l.b) l.c) l.d three_high.upper.number g.d

  two_low : Deeper l.e l.f (smaller l.e l.f)
  two_low = deeper l.e l.f g.e.number g.f

  three_low : Deeper (smaller l.e l.f) l.g (smaller (smaller l.e l.f) l.g)
  three_low = deeper (smaller l.e l.f) l.g two_low.lower.number g.g

  all_low : Deeper (smaller (smaller l.e l.f) l.g) l.h low
  all_low = deeper (smaller (smaller l.e l.f) l.g) l.h three_low.lower.number g.h

  is_peak : peak l ≡ larger (magnitude low) high
  unfolding peak
  is_peak = ap (λ (z : Float). larger z high) (turned low all_low.lower)

  low_units : P (magnitude low) ≡ N low
  low_units = let i = magnitude_units low in let j = all_low.lower.side in omega arith

  both : Higher (magnitude low) high (larger (magnitude low) high)
  both = higher (magnitude low) high (plain_magnitude low all_low.lower.number).number all_high.upper

  kept : magnitude (larger (magnitude low) high) ≡ larger (magnitude low) high
  unfolding larger
  kept = go (lt (magnitude low) high) (lt→units (magnitude low) high M all_high.upper.number)
    where
      M : Number (magnitude low)
      M = (plain_magnitude low all_low.lower.number).number

      go : (b : Bool) → (T b → P (magnitude low) + N high < P high + N (magnitude low)) → magnitude (cond b high (magnitude low)) ≡ cond b high (magnitude low)
      go true f = let i = f tt in let j = none_below low in plain_above high all_high.upper.number (omega arith)
      go false f = (plain_magnitude low all_low.lower.number).same

  pub peak_plain : Plain (peak l)
  peak_plain = subst Plain (sym is_peak) (record { number = both.upper.number; same = kept })

  -- the peak is not more than n units exactly where no lane is
  pub peak_under : (n : ℕ) → Below n l → P (peak l) ≤ n
  peak_under n u =
      subst (λ (z : Float). P z ≤ n) (sym is_peak)
      (both.least n
      (le_trans (le_of_eq low_units) (all_low.least n (three_low.least n (two_low.least n u.e u.f) u.g) u.h))
      (all_high.least n (three_high.least n (two_high.least n u.a u.b) u.c) u.d))

  pub peak_over : (n : ℕ) → P (peak l) ≤ n → Below n l
  peak_over n u =
      let all : P (larger (magnitude low) high) ≤ n = subst (λ (z : Float). P z ≤ n) is_peak u in
      let highest : P high ≤ n = le_trans both.second all in
      let lowest : N low ≤ n = le_trans (le_of_eq (sym low_units)) (le_trans both.first all) in
      let third = le_trans all_high.first highest in
      let third' = le_trans all_low.first lowest in
      let second = le_trans three_high.first third in
      let second' = le_trans three_low.first third' in
      record {
        a = le_trans two_high.first second;
        b = le_trans two_high.second second;
        c = le_trans three_high.second third;
        d = le_trans all_high.second highest;
        e = le_trans two_low.first second';
        f = le_trans two_low.second second';
        g = le_trans three_low.second third';
        h = le_trans all_low.second lowest;
      }

-- ---- the peak of samples
record Peaked (f : Float) (xs : List Float) (z : Float) : Type 0 where
  plain : Plain z
  under : (n : ℕ) → P f ≤ n → Each (Within n) xs → P z ≤ n
  over : (n : ℕ) → P z ≤ n → P f ≤ n × Each (Within n) xs

-- how far a sample is from zero
pub magnitude_under : (n : ℕ) (x : Float) → Within n x → P (magnitude x) ≤ n
magnitude_under n x h = go (sides x h.number).one
  where
    go : (P x ≡ 0) ⊎ (N x ≡ 0) → P (magnitude x) ≤ n
    go (inl z) = let i = magnitude_units x in let j = h.minus in omega arith
    go (inr z) = let i = magnitude_units x in let j = h.plus in omega arith

pub magnitude_over : (n : ℕ) (x : Float) → Number x → P (magnitude x) ≤ n → Within n x
magnitude_over n x h k = let i = magnitude_units x in record { number = h; plus = omega arith; minus = omega arith }

plain_larger : (x y : Float) → Plain x → Plain y → Plain (larger x y)
unfolding larger
plain_larger x y h k = go (lt x y)
  where
    go : (b : Bool) → Plain (cond b y x)
    go true = k
    go false = h

peaked : (f : Float) (xs : List Float) → Plain f → Each Number xs → Peaked f xs (peak_from f xs)
unfolding peak_from Each
peaked f [] p h = record { plain = p; under = λ (n : ℕ) (i : P f ≤ n) (k : Each (Within n) []). i; over = λ (n : ℕ) (i : P f ≤ n). (i, tt) }
peaked f (x ∷ xs) p h =
    let M = plain_magnitude x h.0 in
    let t = higher f (magnitude x) p.number (plain_upper (magnitude x) M) in
    let r = peaked (larger f (magnitude x)) xs (plain_larger f (magnitude x) p M) h.1 in
    record {
      plain = r.plain;
      under = λ (n : ℕ) (i : P f ≤ n) (k : Each (Within n) (x ∷ xs)). r.under n (t.least n i (magnitude_under n x k.0)) k.1;
      over = λ (n : ℕ) (i : P (peak_from (larger f (magnitude x)) xs) ≤ n).
          let o = r.over n i in
          (le_trans t.first o.0, (magnitude_over n x h.0 (le_trans t.second o.0), o.1));
    }

-- ---- at the start of a sub-frame nothing is found, and the sums go on
abbrev pub started : Float → Float → Float → Float → Lanes
started s t u v =
    record { a = nought; b = nought; c = nought; d = nought; e = nought; f = nought; g = nought; h = nought; s = s; t = t; u = u; v = v }

pub nought_units : (P nought ≡ 0) × (N nought ≡ 0)
unfolding P N of_bits
nought_units = (refl, refl)

pub started_signed : (s t u v : Float) → Signed (started s t u v)
started_signed s t u v =
    let n = plain_zero.number in
    let up : Upper nought = record { number = n; side = nought_units.1 } in
    let low : Lower nought = record { number = n; side = nought_units.0 } in
    record { a = up; b = up; c = up; d = up; e = low; f = low; g = low; h = low }

pub started_below : (n : ℕ) (s t u v : Float) → Below n (started s t u v)
started_below n s t u v =
    let p = nought_units.0 in
    let q = nought_units.1 in
    let up : P nought ≤ n = omega arith in
    let low : N nought ≤ n = omega arith in
    record { a = up; b = up; c = up; d = up; e = low; f = low; g = low; h = low }

-- the lanes find the peak of the samples, where the sums are numbers
pub same_peak : (s t u v : Float) (xs : List Float) (r : Lanes) → Raised (started s t u v) xs r → Real r → peak r ≡ peak_from nought xs
same_peak s t u v xs r h k =
    let f = h.found k (started_signed s t u v) in
    let g = f.signed in
    let w = (f.down (P (peak r)) (peak_over r g (P (peak r)) (le_of_eq refl))).1 in
    let z = peaked nought xs plain_zero (each_so (Within (P (peak r))) Number (λ (x : Float) (i : Within (P (peak r)) x). i.number) xs w) in
    let m = P (peak_from nought xs) in
    same (peak r) (peak_from nought xs) (peak_plain r g) z.plain
    (le_antisymm
    (peak_under r g m (f.up m (started_below m s t u v) (z.over m (le_of_eq refl)).1))
    (z.under (P (peak r)) (started_below (P (peak r)) s t u v).a w))
