use Rattle.duality.proofs.PricedLaws.{priced_split, cliques_split, worth_split, taken_split, absent_level}
use Rattle.duality.proofs.laws.sum_laws.Goals as goal

pub returns : goal.returns
returns c = record { priced = priced_split; cliques = cliques_split; worth = worth_split; taken = taken_split; absent = absent_level }
