-- What a frame was to the chain. Definitions only.
use Rattle.std.specs.Prelude.{Bool, cond, List, [], ◌∷◌, ℕ, ◌-◌, Float}
use Rattle.runs.specs.Runs.{publishes}
use Rattle.chain.specs.declared.Answer.{Answer}
use Rattle.chain.specs.declared.Answer.TheVariants.{NonSpeech, Waiting, Publishing}

-- "Kind is N non-speech, W waiting, P publishing; as an answer a P carries the level and headroom, a W how many frames are missing":
-- the number of each case, in that order, how many frames are missing, and the figures
pub record Said : Type 0 where
  pub number : ℕ
  pub missing : ℕ
  pub values : List Float

-- N
abbrev pub non_speech : Said
non_speech = record { number = 0; missing = 0; values = [] }

-- W
abbrev pub waiting : ℕ → Said
waiting missing = record { number = 1; missing = missing; values = [] }

-- P
abbrev pub publishing : Float → Float → Said
publishing level headroom = record { number = 2; missing = 0; values = level ∷ headroom ∷ [] }

unfoldable pub said : Answer → Said
said NonSpeech = non_speech
said (Waiting missing) = waiting missing
said (Publishing level headroom) = publishing level.0 headroom.0

-- by the run after the frame
unfoldable pub answer_of : Bool → ℕ → ℕ → Float → Float → Said
answer_of speech t count level headroom = cond speech (cond (publishes t count) (publishing level headroom) (waiting (t - count))) non_speech
