-- Each step keeps the invariant, so every tree that steps lead to meets it.
use Rattle.tree_theory.specs.Invariant.{Invariant}
use Rattle.tree_theory.specs.Changes.{IsStarted}
use Rattle.tree_theory.specs.KeyClasses.{Class, Laws}
use Rattle.tree_theory.specs.Nodes.{Tree}
use Rattle.tree_theory.specs.Runs.{IsStep, IsReached}
use Rattle.tree_theory.specs.Runs.IsStep.{opens, closes, visits, visits_gone, places, joins, enlarges, splits, grows, installs, cleans, retires, frees}
use Rattle.tree_theory.specs.Runs.IsReached.{starts, goes_on}
use Rattle.tree_theory.proofs.SearchPlace.{searches_placed, searches_joined, searches_enlarged, searches_cleaned}
use Rattle.tree_theory.proofs.SearchRetire.{searches_retired, searches_freed, searches_started}
use Rattle.tree_theory.proofs.SearchSplit.{searches_split, searches_grown, searches_installed}
use Rattle.tree_theory.proofs.SearchVisit.{searches_opened, searches_closed, searches_visited, searches_visited_gone}
use Rattle.tree_theory.proofs.ShapeEnlarge.{shape_enlarged}
use Rattle.tree_theory.proofs.ShapeFree.{shape_freed}
use Rattle.tree_theory.proofs.ShapeGrow.{shape_grown, shape_started}
use Rattle.tree_theory.proofs.ShapeInstall.{shape_installed}
use Rattle.tree_theory.proofs.ShapeKept.{shape_opened, shape_closed, shape_visited, shape_visited_gone, shape_joined}
use Rattle.tree_theory.proofs.ShapePlace.{shape_placed, shape_cleaned}
use Rattle.tree_theory.proofs.ShapeRetire.{shape_retired}
use Rattle.tree_theory.proofs.ShapeSplit.{shape_split}

module _ {Key Query Item : Type 0} {C : Class Key Query Item} where
  pub step_keeps : {t u : Tree C} → Laws C → Invariant t → IsStep t u → Invariant u
  step_keeps laws inv (opens query change) = record { shape = shape_opened inv.shape change; searches = searches_opened inv.shape inv.searches change }
  step_keeps laws inv (closes s change) = record { shape = shape_closed inv.shape change; searches = searches_closed inv.shape inv.searches change }
  step_keeps laws inv (visits s x memo change) = record { shape = shape_visited inv.shape change; searches = searches_visited inv.shape inv.searches change }
  step_keeps laws inv (visits_gone s x memo change) = record { shape = shape_visited_gone inv.shape change; searches = searches_visited_gone inv.shape inv.searches change }
  step_keeps laws inv (places h pair change) = record { shape = shape_placed laws inv.shape change; searches = searches_placed inv.shape inv.searches change }
  step_keeps laws inv (joins h change) = record { shape = shape_joined inv.shape change; searches = searches_joined laws inv.shape inv.searches change }
  step_keeps laws inv (enlarges p key change) = record { shape = shape_enlarged laws inv.shape change; searches = searches_enlarged inv.shape inv.searches change }
  step_keeps laws inv (splits h r change) = record { shape = shape_split change inv.shape; searches = searches_split inv.shape inv.searches change }
  step_keeps laws inv (grows a b change) = record { shape = shape_grown change inv.shape; searches = searches_grown inv.shape inv.searches change }
  step_keeps laws inv (installs p l r change) = record { shape = shape_installed laws change inv.shape; searches = searches_installed laws inv.shape inv.searches change }
  step_keeps laws inv (cleans kept h change) = record { shape = shape_cleaned laws inv.shape change; searches = searches_cleaned inv.shape inv.searches change }
  step_keeps laws inv (retires l p change) = record { shape = shape_retired change inv.shape; searches = searches_retired inv.shape inv.searches change }
  step_keeps laws inv (frees h change) = record { shape = shape_freed change inv.shape; searches = searches_freed inv.shape inv.searches change }

  pub started_keeps : {t : Tree C} → IsStarted t → Invariant t
  started_keeps change = record { shape = shape_started change; searches = searches_started change }

  pub reached_keeps : {t : Tree C} → Laws C → IsReached t → Invariant t
  reached_keeps laws (starts change) = started_keeps change
  reached_keeps laws (goes_on before step) = step_keeps laws (reached_keeps laws before) step
