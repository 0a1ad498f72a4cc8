use Rattle.page_laws.proofs.PagingLemmas.{all_followed, collection_sorted}
use Rattle.page_laws.proofs.laws.pages_are_rows.Goals as goal

pub returns : goal.returns
returns c = record { collection = collection_sorted; pages = all_followed }
