use Rattle.room_model.proofs.ExistenceLaws.{exists_where, none_where}
use Rattle.room_model.proofs.long.existence_laws.Goals as goal

pub returns : goal.returns
returns c = λ i t m. (exists_where i t m, none_where i t m)
