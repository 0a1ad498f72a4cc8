use Rattle.std.proofs.Common.{◌≡◌, ◌++◌, rules}
use Rattle.std.specs.Fmt.{signed_decimal}
use Rattle.drawing.proofs.ElementLemmas.{joined_five}
use Rattle.drawing.proofs.maps.push_level.Goals as goal

pub returns-clause-items : goal.returns-clause-items
returns-clause-items c =
    let place : c.push_page.new.element.items ≡ c.push_bytes.new.element.items ++ signed_decimal c.args.place = search rules in
    let y : c.push_number.new.element.items ≡ c.push_bytes-2.new.element.items ++ signed_decimal c.args.y = search rules in
    joined_five _ _ _ _ _ _ _ _ _ _ _ c.push_bytes.ensures.items place c.push_bytes-2.ensures.items y c.push_bytes-3.ensures.items
