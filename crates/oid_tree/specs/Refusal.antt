-- Refusals 13 and 14, each a rule over the definitions in text order, placed at their names.
-- Assumes nothing.
use Rattle.std.specs.Prelude.{Bool, ◌&&◌, List, [], ◌∷◌, ℕ, zero, suc, ◌+◌, leb, ltb, length}
use Rattle.rule.specs.Rule.{Rule}
use Rattle.module_table.specs.Definition.{entry}
use Rattle.module_table.specs.Module.{Module}
use Rattle.module_table.specs.declared.Definition.{Definition}
use Rattle.oid_head.specs.Unreached.{plain_over, unreached}
use Rattle.oid_head.specs.Oid.{resolved_oid, first_number}

-- the most numbers that an OID may have
abbrev pub longest_oid : ℕ
longest_oid = 128

-- 13: an OID over 128 numbers
unfoldable pub too_long : Module → Rule
too_long m = plain_over 13 m.definitions (λ k. ltb longest_oid (length (resolved_oid m k)))

-- the most numbers that all OIDs may have
abbrev pub most_numbers : ℕ
most_numbers = 8192

-- with a definition the numbers pass the most: there were no more before it, and there are more with it
abbrev pub passes : ℕ → ℕ → Bool
passes before with_it = leb before most_numbers && ltb most_numbers with_it

-- 14: the definition with which the OID numbers pass 8,192
unfoldable pub past_room : Module → Rule
past_room m = plain_over 14 m.definitions (λ k. passes (first_number m k) (first_number m (suc k)))

-- the rules on how many numbers there are
abbrev pub length_rules : Module → List Rule
length_rules m = too_long m ∷ past_room m ∷ []

-- those before OIDs are compared: 12 of all definitions before 13 of any, and so on
abbrev pub collecting_rules : Module → List Rule
collecting_rules m = unreached m ∷ length_rules m

-- The same of definitions that say how many numbers they have.

-- how many the first k have
unfoldable pub counts_before : List Definition → ℕ → ℕ
counts_before ds zero = 0
counts_before ds (suc k) = counts_before ds k + (entry ds k).count

-- 13, by these counts
unfoldable pub long_by_count : List Definition → Rule
long_by_count ds = plain_over 13 ds (λ k. ltb longest_oid (entry ds k).count)

-- 14, by these counts
unfoldable pub room_by_count : List Definition → Rule
room_by_count ds = plain_over 14 ds (λ k. passes (counts_before ds k) (counts_before ds (suc k)))
