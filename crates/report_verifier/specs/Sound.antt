-- What a walk has at every line.
use Rattle.std.specs.Prelude.{◌≤◌, ◌++◌, length, IsTrue}
use Rattle.catalog_model.specs.Held.{cursors_differ, held_by, present_versions}
use Rattle.catalog_model.specs.Sound.{AreNumbered, IsCatalog}
use Rattle.catalog_model.specs.declared.TheConstants.{CURSOR_LIMIT}
use Rattle.report_verifier.specs.Truth.{IsTrueIn}
use Rattle.report_verifier.specs.Walk.{Walk}

pub record IsSoundWalk (walk : Walk) : Type 0 where
  pub lambda : walk.lambda.den ≤ walk.lambda.num
  -- the catalog and the cursors are sound, as in a session
  pub catalog : IsCatalog (held_by walk.cursors) walk.catalog
  pub numbered : AreNumbered walk.catalog.versions (held_by walk.cursors ++ present_versions walk.catalog.tables)
  pub cursor_names : IsTrue (cursors_differ walk.cursors)
  pub few_cursors : length walk.cursors ≤ CURSOR_LIMIT
  -- the ledger is true of the tables and indexes as they are
  pub truth : IsTrueIn walk.catalog walk.ledger
