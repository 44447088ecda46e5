-- The laws of the parts that the proofs of the store's code rest on, in one record.
use Rattle.ssi_versions.specs.Laws.Changes.{LastIsHeld, HeldShows, LastIsAbove, CollectsHeld}
use Rattle.ssi_versions.specs.Laws.Counts.{CountsHeld, CountsKeys}
use Rattle.ssi_snapshot.specs.Laws.{PutIsFound, PutKeepsOrder, ListingIsUnique, LimitTakesFirst, LimitListsItsRange}
use Rattle.ssi_conflict.specs.Laws.{OrderedPivotsAreNamed, BeginsMakeNoPair, AbortsMakeNoPair}

pub record Below : Type 0 where
  pub shows : HeldShows
  pub last_held : LastIsHeld
  pub last_above : LastIsAbove
  pub collects : CollectsHeld
  pub counts_held : CountsHeld
  pub counts_keys : CountsKeys
  pub put_found : PutIsFound
  pub put_order : PutKeepsOrder
  pub unique : ListingIsUnique
  pub takes_first : LimitTakesFirst
  pub lists_range : LimitListsItsRange
  pub named : OrderedPivotsAreNamed
  pub begins : BeginsMakeNoPair
  pub aborts : AbortsMakeNoPair
