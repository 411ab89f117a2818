use Rattle.room_model.proofs.FeatureLaws.{features_listed}
use Rattle.room_model.proofs.sets.feature_laws.Goals as goal

pub returns : goal.returns
returns c = features_listed
