-- `speed::sound::turn` ends: it calls itself with the sound below. Assumes nothing.
use Rattle.speed.proofs.sound.+turn.Given as goal

abbrev pub decreases-turn : goal.decreases-turn
decreases-turn l = l.sound
