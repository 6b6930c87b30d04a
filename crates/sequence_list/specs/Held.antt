-- What is noted of each SEQUENCE list when it is walked, once for each type, so that the rules on rows compare numbers.
-- Assumes nothing.
use Rattle.std.specs.Prelude.{◌≡◌, Bool, not, ◌&&◌, ◌||◌, List, ℕ, suc, ◌<◌, eqb, length, get_or, set}
use Rattle.index.specs.Choice.{when◌then◌else◌}
use Rattle.index.specs.First.{first, any}
use Rattle.module_table.specs.Module.{most_definitions}
use Rattle.module_table.specs.declared.Definition.{Definition}
use Rattle.object_tree.specs.Words.{numbered}
use Rattle.sequence_list.specs.Named.{type_of, columns_of, named_at, names_object, lists, repeats, names_stranger}

-- an index of an array that has a place for each number, counted from 1, and for 0
abbrev pub places : ℕ
places = suc most_definitions

-- the first token of the list that names an object; its end where none does
abbrev pub first_named : List Definition → List ℕ → ℕ → ℕ
first_named ds values type = first (names_object ds values) (columns_of ds type).from (columns_of ds type).to

-- some token of the list names an object
abbrev pub names_some : List Definition → List ℕ → ℕ → Bool
names_some ds values type = any (names_object ds values) (columns_of ds type).from (columns_of ds type).to

-- the parent of the first object that is named
abbrev pub parent_named : List Definition → List ℕ → ℕ → ℕ
parent_named ds values type = (numbered ds (named_at ds values (first_named ds values type))).parent

-- what is noted of a list: 3 it names an object twice; else 0 it names none, 1 all that it names have one parent, 2 they have several
unfoldable pub verdict_of : List Definition → List ℕ → ℕ → ℕ
verdict_of ds values type =
    when repeats ds values type then 3
    else when not (names_some ds values type) then 0
    else when names_stranger ds values type (parent_named ds values type) then 2
    else 1

-- the verdicts and those parents, by types
pub record VerdictTable (ds : List Definition) (values verdicts parents : List ℕ) : Type 0 where
  pub verdicts_long : length verdicts ≡ places
  pub parents_long : length parents ≡ places
  pub verdict : (type : ℕ) → type < places → get_or verdicts type 0 ≡ verdict_of ds values type
  pub parent : (type : ℕ) → type < places → get_or parents type 0 ≡ parent_named ds values type

-- the SEQUENCE type of the parent of the object of a number: of its row, where it is a column
abbrev pub row_type : List Definition → ℕ → ℕ
row_type ds number = type_of (numbered ds (numbered ds number).parent)

-- the objects that the SEQUENCE type of their row names, marked with 1
pub record ListedTable (ds : List Definition) (values listed : List ℕ) : Type 0 where
  pub long : length listed ≡ places
  pub entry : (number : ℕ) → number < places → eqb (get_or listed number 0) 1 ≡ lists ds values (row_type ds number) number

-- those that were marked before, and those of them that this type names as columns of its row
pub record ListedBy (ds : List Definition) (values : List ℕ) (type : ℕ) (old new : List ℕ) : Type 0 where
  pub long : length new ≡ places
  pub entry : (number : ℕ) → number < places
      → eqb (get_or new number 0) 1 ≡ ((eqb (row_type ds number) type && lists ds values type number) || eqb (get_or old number 0) 1)

-- marks of the lists walked before: none reaches this stamp
pub record Stamped (marks : List ℕ) (stamp : ℕ) : Type 0 where
  pub long : length marks ≡ places
  pub below : (number : ℕ) → get_or marks number 0 < stamp

-- an answer, with marks that none of the lists to come has
pub record Answered {A : Type 0} (answer right : A) (marks : List ℕ) (stamp : ℕ) : Type 0 where
  pub is : answer ≡ right
  pub stamped : Stamped marks stamp

-- an object is marked with a stamp; the answer is whether it was before
pub record Marked (old : List ℕ) (number stamp : ℕ) (answer : Bool) (new : List ℕ) : Type 0 where
  pub is : answer ≡ (not (eqb number 0) && eqb (get_or old number 0) stamp)
  pub marked : new ≡ set old number stamp
