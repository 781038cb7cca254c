use Rattle.foreign_master.specs.ForeignMasterTable.{is_above}
use Rattle.foreign_master.proofs.lemmas.FirstFoundLemmas.{end_of}
use Rattle.foreign_master.proofs.search.find_place.Goals as goal

pub returns-in-None-clause-place : goal.returns-in-None-clause-place
returns-in-None-clause-place c = end_of (is_above c.args.sender) c.args.masters.now c.in-None.ensures
