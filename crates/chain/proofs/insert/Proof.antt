-- `insert` is right by the law of one entry more.
-- Assumes nothing.
use borrow.Author.Rules.{rules}
use Rattle.chain.proofs.Chain.{chained_more}
use Rattle.chain.proofs.insert.Statement.{statement}
use Rattle.chain.proofs.insert.Tie as tie

mul-links : tie.Need-offset_bounds-heads-key
mul-links c = search rules

element-copy-out-links : tie.Need-bounds-heads-key
element-copy-out-links c = search rules

mul-links-2 : tie.Need-offset_bounds-links-k
mul-links-2 c = search rules

element-write-links : tie.Need-bounds-links-k
element-write-links c = search rules

add-heads : tie.Need-overflow_add-heads
add-heads c = search rules

mul_heads : tie.Need-offset_bounds-heads-key-2
mul_heads c = search rules

element-write-heads : tie.Need-bounds-heads-key-2
element-write-heads c = search rules

returns : tie.Need-returns
returns c key_of is chained =
    let s = c.before in
    chained_more key_of s.args.k _ _ s.args.key is s.requires.1.1.1 s.requires.1.1.0 chained

pub insert_spec : {M : Type 1} → statement M
insert_spec =
    tie.close
    (tie.spec
    mul-links
    element-copy-out-links
    mul-links-2
    element-write-links
    add-heads
    mul_heads
    element-write-heads
    returns)
