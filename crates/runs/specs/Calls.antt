-- The calls as a history sees them.
use Rattle.history.specs.Acts.{Act, imports, adds, replaces, strikes, undoes}
use Rattle.runs.specs.declared.call.Call.{Call}
use Rattle.runs.specs.declared.call.Call.TheVariants.{Import, Add, Replace, Strike, Undo}

abbrev pub act_of : Call → Act
act_of (Import d) = imports d.now
act_of (Add l) = adds l.now
act_of (Replace n l) = replaces n l.now
act_of (Strike n) = strikes n
act_of Undo = undoes
