-- What each call leaves: its answer, the four lent buffers and the buffer for bytes. Definitions only.
use Rattle.std.specs.Prelude.{List, ◌++◌, ℕ, ◌*◌, ◌/◌, min, Float, length, take, drop, replicate}
use Rattle.tau_state.specs.Constants.{zero32}
use Rattle.tau.specs.declared.calls.Answer.{Answer}
use Rattle.tau_frame.specs.Pairs.{Engine}
use Rattle.tau.specs.Calls.{Called, process_of, flush_of}
use Rattle.tau_streams.specs.Stream.{delivered_by}
use Rattle.wire.specs.Wire.{near_in, far_in, bytes_of}

pub record Fed : Type 0 where
  pub answer : Answer
  pub shadow : List Float
  pub output : List Float
  pub spectra : List Float
  pub powers : List Float
  pub bytes : List ℕ

-- the samples that a buffer for bytes has room for, at most 4,096
abbrev pub room_of : List ℕ → List Float
room_of bytes = replicate (min (length bytes / 4) 4096) zero32

-- the delivered samples' bytes at the buffer's front, and the rest as it was
abbrev pub written_by : Called → List ℕ → Fed
written_by c bytes =
    let samples = delivered_by c in
    record {
      answer = c.answer;
      shadow = c.shadow;
      output = c.output;
      spectra = c.spectra;
      powers = c.powers;
      bytes = bytes_of samples ++ drop (4 * length samples) bytes;
    }

-- the whole pairs of the bytes held, at most 4,096 of them
unfoldable pub fed_of : Engine → List ℕ → List ℕ → Fed
fed_of e held bytes = let taken = take 32768 held in written_by (process_of e (near_in taken) (far_in taken) (room_of bytes)) bytes

unfoldable pub finished_of : Engine → List ℕ → Fed
finished_of e bytes = written_by (flush_of e (room_of bytes)) bytes
