-- The classes at whose places rules of clocks are broken.
use Rattle.std.specs.Prelude.{◌<◌, length}
use Rattle.clock_terms.specs.declared.data.Classes.{Classes}
use Rattle.sub_clock_solve.specs.declared.kinds.SolveEnd.{SolveEnd}
use Rattle.sub_clock_solve.specs.declared.kinds.SolveEnd.TheVariants.{Unknown, TooFine}
use Rattle.clock_check.specs.declared.kinds.CheckEnd.{CheckEnd}
use Rattle.clock_check.specs.declared.kinds.CheckEnd.TheVariants.{EarlyStart, NotOnEvent, EventFactor}

-- a class that is told has a place
abbrev pub HasPlace : Classes → SolveEnd → Type 0
HasPlace classes (Unknown c) = c < length classes.places
HasPlace classes (TooFine c) = c < length classes.places
HasPlace classes end = Unit {0}

abbrev pub HasPlaceIn : Classes → CheckEnd → Type 0
HasPlaceIn classes (EarlyStart c) = c < length classes.places
HasPlaceIn classes (NotOnEvent c) = c < length classes.places
HasPlaceIn classes (EventFactor c) = c < length classes.places
HasPlaceIn classes end = Unit {0}
