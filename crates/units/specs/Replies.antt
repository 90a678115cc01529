-- The numbered replies of documents 01 and 02, and the order in which they are given.
-- Definitions only.
use Rattle.std.specs.Prelude.{Bool, cond, ℕ}

-- "0: done"
abbrev pub done : ℕ
done = 0

-- "1: shape: channels, samples or length not as above, or samples not those the level estimator, limiter or chain was set to"
abbrev pub bad_shape : ℕ
bad_shape = 1

-- "2: a figure NaN or out of range"
abbrev pub bad_figure : ℕ
bad_figure = 2

-- "3: a sample NaN, infinite or too large"
abbrev pub bad_sample : ℕ
bad_sample = 3

-- "4: a setting NaN, out of range or negative zero; a handed-in state that fails the test below"
abbrev pub bad_setting : ℕ
bad_setting = 4

-- "5: strip ends inside a head or record"
abbrev pub cut : ℕ
cut = 5

-- "6: strip length field wrong"
abbrev pub bad_length : ℕ
bad_length = 6

-- "7 now means neither 1 nor 2": the strip's version; "7 also for a strip that is not of the version the tool starts from"
abbrev pub bad_version : ℕ
bad_version = 7

-- "8: output buffer too short"
abbrev pub no_room : ℕ
no_room = 8

-- "9, cannot be said in version 1"
abbrev pub unsaid : ℕ
unsaid = 9

-- "The order is 1, 4, 2, 3": each argument says that its kind of input is as it should be
unfoldable pub refusal : Bool → Bool → Bool → Bool → ℕ
refusal shape setting figure sample =
    cond shape (cond setting (cond figure (cond sample done bad_sample) bad_figure) bad_setting) bad_shape
