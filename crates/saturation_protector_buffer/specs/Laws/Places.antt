-- Where the items of a ring over any size n stand in its storage, which has at least n slots. Laws.
-- Assumes nothing.
use Rattle.std.specs.Prelude.{◌≡◌, Bool, true, false, List, ◌++◌, ℕ, ◌+◌, ◌-◌, ◌*◌, ◌%◌, ◌≤◌, ◌<◌, ltb, length, take, drop, Float}
use Rattle.std.proofs.Math.Path.{refl, ap}
use Rattle.std.proofs.Common.{sym, ◌∙◌, ⊎_elim, add-zero, mod-eq_of_lt, eq-or-lt_of_le, arith, length-drop, get_or-drop, get_or-append-add, ltb-true, ltb-false, eq-eqb, ne_eqb}
use Rattle.std.proofs.Math.Arith.{digits_mod}
use Rattle.std.proofs.Math.ListN.{get_or, length-append, get_or-append}
use Rattle.std.proofs.Math.Seq.{length-take-le, get_or-take}
use Rattle.saturation_protector_buffer.specs.Rings.{slots, start, items}
use Rattle.saturation_protector_buffer.specs.Steps.{round}

module _ (n : ℕ) (xs : List Float) (from : ℕ) (long : n ≤ length xs) (inside : from < n) where
  -- the slots, from the start on, and on from the first of them
  abbrev turned : List Float
  turned = drop from (slots n xs) ++ take from (slots n xs)

  ahead : length (drop from (slots n xs)) ≡ n - from
  ahead = length-drop from (slots n xs) ∙ ap (λ (k : ℕ). k - from) (length-take-le n xs long)

  -- There are as many round the ring as are asked for.
  pub length_round : (size : ℕ) → size ≤ n → length (round n xs from size) ≡ size
  unfolding round
  length_round size h =
      let whole = length-take-le n xs long in
      length-take-le size turned
      (omega (arith, length-append (drop from (slots n xs)) (take from (slots n xs)), ahead, length-take-le from (slots n xs) (omega arith)))

  -- up to the last slot
  to_end : (i : ℕ) (d : Float) → from + i < n → get_or turned i d ≡ get_or xs (from + i) d
  to_end i d h =
      get_or-append (drop from (slots n xs)) (take from (slots n xs)) d i (omega (arith, ahead))
      ∙ get_or-drop from (slots n xs) i d
      ∙ get_or-take n xs (from + i) d h

  -- and on from the first
  from_start : (i k : ℕ) (d : Float) → from + i ≡ n + k → k < from → get_or turned i d ≡ get_or xs k d
  from_start i k d h less =
      let at : i ≡ length (drop from (slots n xs)) + k = omega (arith, ahead) in
      ap (λ (j : ℕ). get_or turned j d) at
      ∙ get_or-append-add (drop from (slots n xs)) (take from (slots n xs)) k d
      ∙ get_or-take from (slots n xs) k d less
      ∙ get_or-take n xs k d (omega arith)

  either : (i : ℕ) (d : Float) (b : Bool) → ltb (from + i) n ≡ b → i < n → get_or turned i d ≡ get_or xs ((from + i) % n) d
  either i d true e h =
      let less : from + i < n = ltb-true (from + i) n e in
      to_end i d less ∙ ap (λ (j : ℕ). get_or xs j d) (sym (mod-eq_of_lt less))
  either i d false e h =
      let most : n ≤ from + i = ltb-false (from + i) n e in
      let k = from + i - n in
      let over : from + i ≡ n + k = omega arith in
      let whole : from + i ≡ 1 * n + k = omega arith in
      from_start i k d over (omega arith)
      ∙ ap (λ (j : ℕ). get_or xs j d) (sym (ap (λ (j : ℕ). j % n) whole ∙ digits_mod 1 {m = n} {r = k} (omega arith)))

  -- The i-th of them is stored at (from + i) % n, as the Rust reads it.
  pub round_at : (size i : ℕ) (d : Float) → size ≤ n → i < size → get_or (round n xs from size) i d ≡ get_or xs ((from + i) % n) d
  unfolding round
  round_at size i d most h =
      get_or-take size turned i d h ∙ either i d (ltb (from + i) n) refl (omega arith)

  -- The first of them is stored where they start.
  pub round_first : (size : ℕ) (d : Float) → 0 < size → get_or (round n xs from size) 0 d ≡ get_or xs from d
  unfolding round
  round_first size d h =
      get_or-take size turned 0 d h ∙ to_end 0 d (omega arith) ∙ ap (λ (j : ℕ). get_or xs j d) (add-zero from)

-- A full ring starts at the place of the next one.
pub start_full : (n place size : ℕ) → size ≡ n → start n place size ≡ place
unfolding start
start_full n place size e = rw (eq-eqb size n e)

-- A ring that is not full starts at 0.
pub start_early : (n place size : ℕ) → size < n → start n place size ≡ 0
unfolding start
start_early n place size h = rw (ne_eqb size n (λ e. omega arith))

-- The oldest stands inside the ring.
pub start_inside : (n place size : ℕ) → place < n → size ≤ n → start n place size < n
start_inside n place size inside most =
    ⊎_elim (λ e. rw (start_full n place size e) inside) (λ h. rw (start_early n place size h) (omega arith)) (eq-or-lt_of_le most)

module _ (n : ℕ) (stored : List Float) (place size : ℕ) (long : n ≤ length stored) (inside : place < n) (most : size ≤ n) where
  -- There are as many items as the size says.
  pub length_items : length (items n stored place size) ≡ size
  unfolding items round
  length_items = length_round n stored (start n place size) long (start_inside n place size inside most) size most

  -- The i-th item, counted from the oldest.
  pub item_at : (i : ℕ) (d : Float) → i < size → get_or (items n stored place size) i d ≡ get_or stored ((start n place size + i) % n) d
  unfolding items round
  item_at i d h = round_at n stored (start n place size) long (start_inside n place size inside most) size i d most h

  -- The front index in the Rust's words: where there is an item, the oldest is stored at the start.
  pub front_at : (d : Float) → 0 < size → get_or (items n stored place size) 0 d ≡ get_or stored (start n place size) d
  unfolding items round
  front_at d h = round_first n stored (start n place size) long (start_inside n place size inside most) size d h
