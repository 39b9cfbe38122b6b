-- What is kept of names before the first moment.
use Rattle.sync_values.specs.declared.value.Value.{Value}
use Rattle.flat_model.specs.declared.model.FlatName.{FlatName}

abbrev pub start_of : FlatName → Value
start_of name = name.start
