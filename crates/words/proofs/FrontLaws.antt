-- What stands in front of octets: blanks, counted one by one, and a heading, compared byte by byte. Assumes nothing.
use Prim.Native.Nat.{ℕ, ◌+◌, ◌-◌, ◌≤◌}
use mathlib.Core.Path.{◌≡◌, refl, ap}
use mathlib.Core.Bool.{Bool, true, false, ◌&&◌, not, cond}
use mathlib.Core.List.{List, [], ◌∷◌}
use native.Mathlib.Omega.{arith}
use lib.Dec.{eqb}
use lib.ListN.{length, take, drop, length-drop}
use lib.Seq.{take_all}
use Rattle.std.specs.List.{position_or_len, starts_with}
use Rattle.std.proofs.lemmas.List.Recursion.{is_position_or_len}
use Rattle.index.specs.Choice.{when◌then◌else◌}
use Rattle.words.specs.Octets.{blank, blanks, front, heading, starts}

-- the blanks end at the first byte that is none
pub blanks_is : (word : List ℕ) → blanks word ≡ position_or_len (λ b. not (blank b)) word
unfolding blanks
blanks_is = is_position_or_len blanks (λ b. not (blank b)) refl (λ b rest. step (blank b) (blanks rest))
  where
    step : (t : Bool) (n : ℕ) → (when t then n + 1 else 0) ≡ cond (not t) 0 (1 + n)
    step true n = omega arith
    step false n = refl

-- the definition's test is std's
pub starts_is_std : (bytes word : List ℕ) → starts bytes word ≡ starts_with eqb word bytes
unfolding starts
starts_is_std [] word = refl
starts_is_std (b ∷ bytes) [] = refl
starts_is_std (b ∷ bytes) (c ∷ word) = ap (λ t. eqb b c && t) (starts_is_std bytes word)

-- what is left of a word behind its blanks
pub rest : (word : List ℕ) (n : ℕ) → take (length word - n) (drop n word) ≡ drop n word
rest word n = take_all (length word - n) (drop n word) (simp length-drop (omega arith))

-- blanks and heading together
pub front_is : (word : List ℕ) (n size : ℕ) → n ≡ blanks word → size ≡ heading (take (length word - n) (drop n word))
    → n + size ≡ front word
unfolding front
front_is word n size is-blanks is-heading = let left_is = rest word n in cc

pub front_fits : (word : List ℕ) (n size : ℕ) → n ≤ length word → size ≤ length (take (length word - n) (drop n word))
    → n + size ≤ length word
front_fits word n size inside fits = let short = simp (rest word n, length-drop) at fits in omega arith
