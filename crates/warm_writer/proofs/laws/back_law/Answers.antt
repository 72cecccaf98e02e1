use Rattle.warm_writer.proofs.SearchAlone.{search-alone}
use Rattle.warm_writer.proofs.SearchBack.{search-back}
use Rattle.warm_writer.proofs.laws.back_law.Goals as goal

pub returns : goal.returns
returns c = record { reads_back = search-back; reads_alone = λ s t formed fits e. search-alone s formed fits t e }
