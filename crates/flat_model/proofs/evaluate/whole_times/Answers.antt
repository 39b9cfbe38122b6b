use Rattle.flat_model.proofs.evaluate.whole_times.Goals as goal

pub returns-in-Period : goal.returns-in-Period
returns-in-Period c = rw c.in-Period.is c.floor_times.ensures

pub returns-in-Between : goal.returns-in-Between
returns-in-Between c = rw c.in-Between.is c.floor_between.ensures
