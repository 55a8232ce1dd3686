-- What a frame gives.
use Rattle.std.specs.Prelude.{ℕ}
use Rattle.frames.specs.declared.Frame.{Frame}
use Rattle.frames.specs.declared.Frame.TheVariants.{Block, CutOff, End}

-- How many bytes are taken of its block; 0 if there is none.
abbrev pub taken_of : Frame → ℕ
taken_of (Block length) = length
taken_of CutOff = 0
taken_of End = 0
