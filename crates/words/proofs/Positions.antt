-- What `position` answers, as the place where std's search ends. Assumes nothing.
use Rattle.std.proofs.Common.{◌≡◌, ℕ, Bool, true, false, cond, List, length, refl, arith}
use Rattle.std.specs.Prelude.{Some, None, nat_lt}
use Rattle.std.specs.List.{position, position_or_len}
use Rattle.std.proofs.lemmas.Bool.Decides.{nat_tests}
use Rattle.std.proofs.lemmas.List.Sums.{prefix_len-le-length}

pub found : (p : ℕ → Bool) (xs : List ℕ) (n : ℕ) → Some n ≡ position p xs → n ≡ position_or_len p xs
found p xs n is = go (nat_lt (position_or_len p xs) (length xs)) is
  where
    go : (t : Bool) → Some n ≡ cond t (Some (position_or_len p xs)) None → n ≡ position_or_len p xs
    go true is = cc
    go false is = cc

pub missing : (p : ℕ → Bool) (xs : List ℕ) → None ≡ position p xs → length xs ≡ position_or_len p xs
missing p xs is = go (nat_lt (position_or_len p xs) (length xs)) refl is
  where
    go : (t : Bool) → nat_lt (position_or_len p xs) (length xs) ≡ t → None ≡ cond t (Some (position_or_len p xs)) None → length xs ≡ position_or_len p xs
    go true e is = absurd (cc)
    go false e is = grind (arith, nat_tests, prefix_len-le-length)
