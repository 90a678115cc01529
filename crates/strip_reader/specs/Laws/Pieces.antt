-- However a strip is cut into blocks, the same comes out. Laws.
-- Assumes nothing.
use Rattle.std.specs.Prelude.{◌≡◌, refl, Bool, true, false, cond, List, [], ◌∷◌, ◌++◌, ℕ}
use Rattle.strip_reader.specs.Reader.{Handed, is_more, fed}
use Rattle.strip_reader.specs.Feeding.{joins, feed, feed_blocks, whole}
use Rattle.strip_reader.specs.declared.Reader.{Reader}

pub joins_append : (h : Handed) (xs ys : List Handed) → joins h (xs ++ ys) ≡ joins h xs ++ ys
unfolding joins
joins_append h xs ys = go (is_more h)
  where
    go : (b : Bool) → cond b (xs ++ ys) (h ∷ (xs ++ ys)) ≡ cond b xs (h ∷ xs) ++ ys
    go true = refl
    go false = refl

-- Bytes that come in two pieces give what each gives, one after the other.
pub feed_append : (r : Reader) (xs ys : List ℕ)
    → feed r (xs ++ ys) ≡ record { reader = (feed (feed r xs).reader ys).reader; out = (feed r xs).out ++ (feed (feed r xs).reader ys).out }
unfolding feed
feed_append r [] ys = refl
feed_append r (x ∷ xs) ys =
    rw (feed_append (fed r x).reader xs ys, joins_append (fed r x).got (feed (fed r x).reader xs).out (feed (feed (fed r x).reader xs).reader ys).out)

-- Blocks give what all their bytes give.
pub feed_blocks_lem : (r : Reader) (blocks : List (List ℕ)) → feed_blocks r blocks ≡ feed r (whole blocks)
unfolding feed_blocks feed whole
feed_blocks_lem r [] = refl
feed_blocks_lem r (b ∷ bs) = rw (feed_blocks_lem (feed r b).reader bs, feed_append r b (whole bs))
