-- `introduction` is right by what the trees tell.
-- Assumes nothing.
use mathlib.Core.Path.{◌≡◌, refl, sym, ◌∙◌}
use mathlib.Core.Logic.{inl, inr}
use Prim.Native.Nat.{ℕ, suc, ◌-◌, ◌<◌}
use native.Mathlib.Omega.{arith}
use lib.ListN.{length}
use Rattle.lexicon.specs.Word.{same}
use Rattle.token.specs.Cut.{meanings_in}
use Rattle.symbol.specs.Symbol.{iso_name}
use Rattle.name_tree.specs.Tree.{Placed}
use Rattle.scope.specs.Token.{classes_of, spelled}
use Rattle.scope.specs.Lead.{introduces}
use Rattle.scope.proofs.Tokens.{starts_long, ends_long, placed}
use Rattle.std.specs.Prelude.{Option, None, Some}
use Rattle.naming.proofs.Twice.{iso_told, told_new, told_again}
use borrow.Author.Rules.{rules}
use Rattle.naming.proofs.again.introduction.Statement.{statement}
use Rattle.naming.proofs.again.introduction.Tie as tie

inside : (s : tie.Start) → s.args.i < length (classes_of (meanings_in s.args.text.now))
inside s = omega (arith, s.requires.1.0.0, starts_long _ _ _ _ s.requires.0)

here : (s : tie.Start) → Placed s.args.text.now s.args.starts.now s.args.ends.now s.args.i
here s = placed _ _ _ _ s.requires.0 s.args.i (inside s)

abbrev start_of : tie.After-names_iso → tie.Start
start_of c = c.before.before.before.before.before.before.before.before.before

iso_is : (c : tie.After-names_iso) → c.names_iso.result ≡ same (spelled (meanings_in (start_of c).args.text.now) (start_of c).args.i) iso_name
iso_is c =
    let s = start_of c in
    iso_told _ _ _ s.requires.0 s.args.i (inside s) s.requires.1.1.0 _
    (rw (← c.wide.ensures, ← c.wide-2.ensures) c.names_iso.ensures)

-- a token that stands against another is not new
again_new : (j : ℕ) → ◌≡◌ {A = Option ℕ} (Some j) None → ⊥
again_new j e = let z : ◌≡◌ {A = ℕ} 0 1 = cc in omega arith

mul_wide : tie.Need-offset_bounds-starts-i
mul_wide c = search rules

shared-slice-read-wide : tie.Need-bounds-starts-i
shared-slice-read-wide c = search rules

wide-requires : tie.Need-wide-requires
wide-requires c κs = search rules

mul-wide-2 : tie.Need-offset_bounds-ends-i
mul-wide-2 c = search rules

shared-slice-read-wide-2 : tie.Need-bounds-ends-i
shared-slice-read-wide-2 c =
    let s = c in
    omega (arith, s.requires.1.0.0, starts_long _ _ _ _ s.requires.0, ends_long _ _ _ _ s.requires.0)

wide-requires-2 : tie.Need-wide-requires-2
wide-requires-2 c κs = search rules

names-iso-requires : tie.Need-names_iso-requires
names-iso-requires c κs =
    let s = c in
    rw (c.wide.ensures, c.wide-2.ensures) (here s.before.before.before.before.before.before.before.before).within

returns : tie.Need-returns-then-names_iso
returns c = (refl, (inl (sym (iso_is c.before) ∙ c.if-names_iso.true, refl), (λ e. absurd (again_new _ e))))

admit-requires : tie.Need-admit-at-requires
admit-requires c κs =
    let s = start_of c.before.before.before in
    ((introduces _, s.requires.1.1.1), (here s, (s.requires.1.0.1, s.requires.1.0.2)))

same_length : tie.Need-shape_of-links-then-at-eq0
same_length c = search rules

returns-2 : tie.Need-returns-then-at-eq0
returns-2 c =
    let a = c in
    let e = a in
    let s = start_of e.before.before.before.before.before.before.before in
    let told = a.admit-at.ensures.1 (introduces _) s.requires.1.1.1 in
    (a.admit-at.ensures.0, ((sym (iso_is e.before.before.before.before.before.before.before) ∙ e.if-names_iso.false, told_new _ _ _ s.requires.0 s.args.i (inside s) s.requires.1.1.0 _ _ _ told c.if-at-eq0.true), (λ z. told.grown c.if-at-eq0.true s.requires.1.1.0)))

sub-t9 : tie.Need-overflow_sub-result
sub-t9 c = search rules

same-length-2 : tie.Need-shape_of-links
same-length-2 c = search rules

returns-3 : tie.Need-returns
returns-3 c =
    let a = c in
    let e = a in
    let s = start_of e.before.before.before.before.before.before.before in
    let told = a.admit-at.ensures.1 (introduces _) s.requires.1.1.1 in
    let some : a.admit-at.result ≡ suc (a.admit-at.result - 1) = omega (arith, c.if-at-eq0.false) in
    (a.admit-at.ensures.0, (inr (told_again _ _ _ s.requires.0 s.args.i (inside s) s.requires.1.1.0 _ _ _ told _ some), (λ z. absurd (again_new _ z))))

pub introduction_spec : {M : Type 1} → statement M
introduction_spec =
    tie.close
    (tie.spec
    mul_wide
    shared-slice-read-wide
    wide-requires
    mul-wide-2
    shared-slice-read-wide-2
    wide-requires-2
    names-iso-requires
    returns
    admit-requires
    same_length
    returns-2
    sub-t9
    same-length-2
    returns-3)
