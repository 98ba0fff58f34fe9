use Rattle.irig_plant.proofs.PriceLaws.{price}
use Rattle.irig_plant.proofs.laws_of_edges.false_seconds_have_their_price.Goals as goal

pub returns : goal.returns
returns _ = λ s r ev count sound true_table. price s r ev sound true_table count
