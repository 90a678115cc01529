-- `strip_format::head_bytes` meets its contract. Assumes nothing.
use Rattle.std.proofs.Common.{◌≡◌, List, [], ◌∷◌, ◌++◌, ℕ, ◌+◌, ◌-◌, take, drop, refl}
use lib.ListN.{set, replicate}
use Rattle.strip_format.specs.Fields.{big_endian, size, written}
use Rattle.strip_format.specs.Format.{number_of, threshold_bytes, head_fields, head_numbers, head_bytes}
use Rattle.strip_format.specs.Steps.{floats_bytes}
use Rattle.strip_format.specs.declared.Version.{Version}
use Rattle.strip_format.specs.declared.Version.TheVariants.{One, Two}
use Rattle.strip_format.specs.declared.Head.{Head}
use Rattle.strip_format.proofs.head_bytes.Goals as goal

-- version by version: the bytes with the length, then the version, the threshold, the samples and the settings
bytes-are : (h : Head) (v : Version) (w number : ℕ) {n o p q : List ℕ} → h.version ≡ v → w ≡ threshold_bytes h.version → number ≡ number_of h.version
    → n ≡ take 0 (replicate 27 0) ++ big_endian 2 (3 + w + 22 - 2) ++ drop 2 (replicate 27 0)
    → o ≡ take 3 (set n 2 number) ++ big_endian (threshold_bytes h.version) h.threshold ++ drop (3 + threshold_bytes h.version) (set n 2 number)
    → p ≡ take (3 + w) o ++ big_endian 2 h.samples ++ drop (3 + w + 2) o
    → q
    ≡ take (3 + w + 2) p
    ++ floats_bytes (h.settings.headroom.0 ∷ h.settings.largest.0 ∷ h.settings.initial.0 ∷ h.settings.change ∷ h.settings.noise.0 ∷ [])
    ++ drop (3 + w + 2 + 20) p
    → take (size (head_fields h.version)) q ≡ head_bytes h
unfolding head_bytes head_numbers written floats_bytes big_endian
bytes-are h One w number e we ne n o p q = rw (q, p, o, n, we, ne, e)
bytes-are h Two w number e we ne n o p q = rw (q, p, o, n, we, ne, e)

pub returns : goal.returns
returns c =
    let h = c.args.head in
    bytes-are h h.version c.threshold_bytes-at.result c.number.result refl c.threshold_bytes-at.ensures.value c.number.ensures
    c.put_two.ensures c.put_threshold.ensures c.put_two-2.ensures c.put_floats.ensures
