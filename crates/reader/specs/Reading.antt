-- What is read of a text: document 01 whole. The rules from 8 on are one list; a text is accepted where its tokens are derived and
-- all of them are kept, and refused at the first that is broken.
-- Assumes nothing.
use Rattle.std.specs.Prelude.{List, [], ◌∷◌, ◌++◌, map, ℕ, get_or, Ok, Err}
use Rattle.rule.specs.Rule.{Rule, judge, Judgement}
use Rattle.token.specs.Token.{Tok, Meaning, meanings}
use Rattle.token.specs.Cut.{cut, meanings_in}
use Rattle.syntax.specs.Parsing.{Parsing}
use Rattle.syntax.specs.Parsing.{Derived, Underived, Uncut}
use Rattle.module_table.specs.declared.Definition.{Definition}
use Rattle.module_table.specs.Module.{Module, count_of}
use Rattle.scope.specs.Token.{spelled}
use Rattle.naming.specs.Rules.{name_rules}
use Rattle.naming.specs.Values.{named}
use Rattle.oid_tree.specs.Stage.{with_oids}
use Rattle.oid_tree.specs.Refusal.{collecting_rules}
use Rattle.oid_holder.specs.Holder.{held_twice}
use Rattle.type_class.specs.Stage.{with_classes}
use Rattle.syntax_check.specs.Refusal.{rules_over}
use Rattle.object_tree.specs.Tree.{with_parents}
use Rattle.table_check.specs.Refusal.{table_broken}
use Rattle.access_check.specs.Access.{access_broken}
use Rattle.access_check.specs.Notification.{notification_broken}
use Rattle.records.specs.Record.{records_before}

-- The module of a text, stage by stage: with its names (`named`), its OIDs, its classes, and its tables, rows and columns.

abbrev pub numbered : List Meaning → Module
numbered ms = with_oids (named ms)

abbrev pub classed : List Meaning → Module
classed ms = with_classes (numbered ms)

abbrev pub module_of : List Meaning → Module
module_of ms = with_parents (classed ms)

-- the rules on OIDs, the last of which looks at what the others allow to be written
unfoldable pub oid_rules : Module → List Rule
oid_rules m = collecting_rules m ++ held_twice (with_oids m).definitions (with_oids m).numbers ∷ []

-- the rules on tables, access and notifications, of definitions that know their parents
unfoldable pub object_rules : List Definition → List ℕ → List ℕ → List Rule
object_rules ds values numbers =
    table_broken ds values numbers ∷ access_broken ds values ∷ notification_broken ds values numbers ∷ []

-- the rules from 12 on, each of its stage
unfoldable pub later_rules : List Meaning → List Rule
later_rules ms =
    oid_rules (named ms)
    ++ (rules_over (spelled ms) (classed ms).classes (classed ms).values (classed ms).definitions
    ++ object_rules (module_of ms).definitions (module_of ms).values (module_of ms).numbers)

-- all rules from 8 on, in the order of their ranks
unfoldable pub rules : List Meaning → List Rule
rules ms = name_rules ms ++ later_rules ms

-- what is read: a module with its records and its sub-identifiers; or a refusal with its number, which of the rule's clauses, its place
-- in bytes, and the place that this one stands against
pub data Outcome : Type 0 where
  accepted : (count : ℕ) (records numbers : List ℕ) → Outcome
  refused : (number clause place other : ℕ) → Outcome

-- where each token starts, and where it ends
abbrev pub starts_of : List Tok → List ℕ
starts_of ts = map (λ (t : Tok). t.start) ts

abbrev pub ends_of : List Tok → List ℕ
ends_of ts = map (λ (t : Tok). t.end) ts

-- where token i starts
abbrev pub start_of : List Tok → ℕ → ℕ
start_of ts i = get_or (starts_of ts) i 0

-- the records of a module's definitions, one after the other
abbrev pub records_of : List Tok → Module → List ℕ
records_of ts m = records_before (starts_of ts) (ends_of ts) m.definitions (count_of m)

-- of tokens that the grammar derives, by what the rules say: a refusal is placed at the start of its token
abbrev pub judged : List Tok → Judgement → Outcome
judged ts (Ok _) =
    accepted (count_of (module_of (meanings ts))) (records_of ts (module_of (meanings ts))) (module_of (meanings ts)).numbers
judged ts (Err f) = refused f.number f.clause (start_of ts f.token.0) (start_of ts f.other.0)

-- of a text, by how it is parsed; a refusal by 3 to 7 is about one place alone
abbrev pub outcome : List ℕ → Parsing → Outcome
outcome text (Derived n) = judged (cut text).tokens (judge (rules (meanings_in text)))
outcome text (Underived n at) = refused 7 0 at.0 at.0
outcome text (Uncut number at) = refused number 0 at.0 at.0
