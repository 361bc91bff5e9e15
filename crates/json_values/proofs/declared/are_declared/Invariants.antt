use Rattle.std.proofs.Common.{◌≡◌, map, string_bytes}
use Rattle.json_values.specs.Reading.{all_declared}
use Rattle.json_values.proofs.declared.are_declared.Given as goal

abbrev pub invariant-loop-name : goal.invariant-loop-name
invariant-loop-name l =
    all_declared (map (λ e. string_bytes e.0) l.name-iterator) l.declared ≡ all_declared (map (λ e. string_bytes e.0) l.members.entries) l.declared
