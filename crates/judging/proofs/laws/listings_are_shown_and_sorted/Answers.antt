use Rattle.judging.proofs.ListingLemmas.{listed_shown, listed_sorted}
use Rattle.judging.proofs.laws.listings_are_shown_and_sorted.Goals as goal

pub returns-clause-shown : goal.returns-clause-shown
returns-clause-shown c state subject window rows listed =
    listed_shown state.decider.document subject window state.features rows listed

pub returns-clause-sorted : goal.returns-clause-sorted
returns-clause-sorted c state subject window rows sorted listed =
    listed_sorted state.decider.document subject window state.features rows listed sorted
