-- What is open of real files, which tell nothing.
use Rattle.std.specs.Prelude.{None}
use Rattle.igvm_outside.specs.Files.{State, Nothing, Reading, Writing}
use Rattle.igvm_outside.specs.declared.std_shelf.Stream.{Stream}
use Rattle.igvm_outside.specs.declared.std_shelf.Stream.TheVariants.{Closed, Read, Write}

abbrev pub state_of_stream : {F : Type 0} → Stream F → State
state_of_stream Closed = Nothing
state_of_stream (Read file) = Reading None
state_of_stream (Write file) = Writing None
