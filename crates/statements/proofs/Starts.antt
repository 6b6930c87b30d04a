-- Tokens start one after the other.
-- Assumes nothing.
use mathlib.Core.List.{List, [], ◌∷◌}
use Prim.Native.Nat.{ℕ, zero, suc, ◌≤◌, ◌<◌}
use native.Mathlib.Omega.{arith}
use lib.ListN.{length}
use Rattle.token.specs.Token.{Tok}
use Rattle.token.specs.Cut.{cut}
use Rattle.token.specs.Law.{Rising}
use Rattle.token.proofs.Laws.{rising}
use Rattle.reader.specs.Reading.{start_of}

-- no token starts before the place that they rise from
from_there : (text : List ℕ) (from : ℕ) (ts : List Tok) → Rising text from ts → (j : ℕ) → j < length ts → from ≤ start_of ts j
from_there text from [] r j h = absurd (omega arith)
from_there text from (t ∷ ts) r zero h = r.0
from_there text from (t ∷ ts) r (suc j) h =
    omega (arith, r.0, r.1.nonempty, from_there text t.end ts r.2 j (omega arith))

in_turn : (text : List ℕ) (from : ℕ) (ts : List Tok) → Rising text from ts → (i j : ℕ) → i < j → j < length ts → start_of ts i < start_of ts j
in_turn text from [] r i j h l = absurd (omega arith)
in_turn text from (t ∷ ts) r i zero h l = absurd (omega arith)
in_turn text from (t ∷ ts) r zero (suc j) h l = omega (arith, r.1.nonempty, from_there text t.end ts r.2 j (omega arith))
in_turn text from (t ∷ ts) r (suc i) (suc j) h l = in_turn text t.end ts r.2 i j (omega arith) (omega arith)

-- a later token starts later
pub starts_rise : (text : List ℕ) (i j : ℕ) → i < j → j < length (cut text).tokens → start_of (cut text).tokens i < start_of (cut text).tokens j
starts_rise text = in_turn text 0 (cut text).tokens (rising text)
