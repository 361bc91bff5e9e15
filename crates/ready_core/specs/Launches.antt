-- What the fault of a launch says.
use Rattle.wdl_port.specs.declared.fault.LaunchFault.{LaunchFault}
use Rattle.wdl_port.specs.declared.fault.LaunchFault.TheVariants.{Refused, NoMemory}

-- A refused request is one that the launcher refuses; nothing is said of want of memory.
abbrev pub Refusal : LaunchFault → Type 0 → Type 0
Refusal Refused p = p
Refusal NoMemory p = Unit {0}
