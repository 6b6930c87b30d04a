-- `hang` is right by the law of the word that gets a child.
-- Assumes nothing.
use Rattle.bit_tree.proofs.Word.{word_fits, cleared_word, hung}
use native.Mathlib.Omega.{arith}
use lib.ListN.{length-set}
use borrow.Author.Rules.{rules}
use Rattle.bit_tree.proofs.hang.Statement.{statement}
use Rattle.bit_tree.proofs.hang.Tie as tie

mul-links : tie.Need-offset_bounds-links-k
mul-links c = search rules

slice-write-links : tie.Need-bounds-links-k
slice-write-links c = search rules

mul-links-2 : tie.Need-offset_bounds-links-j
mul-links-2 c = search rules

slice-read-links : tie.Need-bounds-links-j
slice-read-links c =
    let s = c.before.before in
    simp length-set (omega (arith, s.requires.0.0, s.requires.0.1))

only-child-requires : tie.Need-only_child-requires
only-child-requires c κs = search rules

add-links : tie.Need-overflow_add-links
add-links c =
    let s = c.before.before.before in
    let old = cleared_word s.args.links.now s.args.j s.args.k s.args.side s.requires.0.0 s.requires.0.1 in
    let fits = word_fits _ s.args.k s.args.side s.requires.1 (omega (arith, old, c.slice_known-2-1.given s.args.j)) s.requires.0.2 in
    omega (arith, old, fits, c.only_child.ensures)

mul-links-3 : tie.Need-offset_bounds-links-j-2
mul-links-3 c = search rules

slice-write-links-2 : tie.Need-bounds-links-j-2
slice-write-links-2 c =
    let s = c.before.before.before in
    simp length-set (omega (arith, s.requires.0.0, s.requires.0.1))

same_length : tie.Need-shape_of-links
same_length c = search rules

returns : tie.Need-returns
returns c =
    let s = c.before.before.before in
    let old = cleared_word s.args.links.now s.args.j s.args.k s.args.side s.requires.0.0 s.requires.0.1 in
    (simp length-set, hung _ _ _ _ s.requires.0.0 s.requires.0.1 s.requires.1 s.requires.0.2 _ (omega (arith, old, c.only_child.ensures)))

pub hang_spec : {M : Type 1} → statement M
hang_spec =
    tie.close
    (tie.spec
    mul-links
    slice-write-links
    mul-links-2
    slice-read-links
    only-child-requires
    add-links
    mul-links-3
    slice-write-links-2
    same_length
    returns)
