-- Each entry of the table lies in the text.
use Rattle.std.proofs.Common.{arith}
use Rattle.token.proofs.Entries.{entry_place}
use Rattle.tokens.proofs.list_tokens.Goals as goal

pub print_token-requires : goal.print_token-requires
print_token-requires c =
    let place = entry_place _ _ _ _ _ _ c.requires c.loop-i.i c.loop-i-test.true in
    record { ordered = omega (arith, place); inside = place.1 }
