use Rattle.std.proofs.Common.{length, ap, ◌∙◌, arith}
use Rattle.std.proofs.lemmas.List.{length-map}
use Rattle.plain_world.proofs.listing.ids_found.Goals as goal

pub returns-clause-keeps : goal.returns-clause-keeps
returns-clause-keeps g c = λ id has. c.put_in_order.ensures.keeps id (rw (c.in_ok-ids.ensures) has)

pub returns-clause-few : goal.returns-clause-few
returns-clause-few g c = omega (arith, c.put_in_order.ensures.few, ap length c.in_ok-ids.ensures ∙ length-map c.args.found.now _)
