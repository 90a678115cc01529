-- A buffer that is filled by reads. Definitions only.
use Rattle.std.specs.Prelude.{ℕ, ◌+◌, ◌-◌, min, Bool, false, ◌&&◌, nat_lt}
use Rattle.recording_run.specs.declared.input.Filled.{Filled}

-- none of its bytes is filled
abbrev pub empty_buffer : ℕ → Filled
empty_buffer most = record { n = 0; more = nat_lt 0 most; failed = false }

-- behind n bytes some more came, or the read failed; reading goes on as long as bytes come and the buffer is not full
abbrev pub after_read : ℕ → ℕ → Bool → ℕ → Filled
after_read n came failed most =
    let now = n + min came (most - n) in
    record { n = now; more = nat_lt 0 came && nat_lt now most; failed = failed }
