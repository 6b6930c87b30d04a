-- The keys of lists, as of a name's bytes or an OID's numbers.
-- Assumes nothing.
use Rattle.std.specs.Prelude.{cond, List, ℕ, ◌+◌, ◌-◌, ◌*◌, ◌%◌, ltb, length, get_or}
use Rattle.chain.specs.Chain.{key_count}

-- the key of a list of this length with these last three entries, weighed so that endings of a few digits or small numbers differ
abbrev pub key : ℕ → ℕ → ℕ → ℕ → ℕ
key size third second last =
    (last % key_count + 16 * (second % key_count) + 37 * (third % key_count) + size % key_count) % key_count

-- the key of a list; its length where it has no three entries
unfoldable pub list_key : List ℕ → ℕ
list_key l =
    cond (ltb (length l) 3) (length l)
    (key (length l) (get_or l (length l - 3) 0) (get_or l (length l - 2) 0) (get_or l (length l - 1) 0))
