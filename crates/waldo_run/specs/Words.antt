-- What the command words say to this program.
use Rattle.std.specs.Prelude.{ℕ, Bool, false, bytes_eq, if◌then◌else◌, ⊤, Result, Ok, Err, List, [], ◌∷◌, codes}
use Rattle.waldo_words.specs.Words.{command_of}
use Rattle.waldo_words.specs.declared.command.Command.{Command}
use Rattle.waldo_words.specs.declared.command.Command.TheVariants as commands
use Rattle.waldo_words.specs.declared.faults.WordFault.{WordFault}
use Rattle.waldo_words.specs.declared.faults.WordFault.TheVariants.{Word}

-- the name of a command that is not built yet
abbrev pub is_unbuilt : List ℕ → Bool
is_unbuilt word = bytes_eq word (codes "race")

-- a command that is built; another one is refused as an unknown command
abbrev pub only_built : Result Command WordFault → Result Command WordFault
only_built (Err fault) = Err fault
only_built (Ok (commands.Ask common)) = Ok (commands.Ask common)
only_built (Ok (commands.Replay common schedule)) = Ok (commands.Replay common schedule)
only_built (Ok (commands.Make common number rows)) = Ok (commands.Make common number rows)
only_built (Ok (commands.Trace common)) = Ok (commands.Trace common)
only_built (Ok (commands.Race common writers askers rounds)) = Err (Word 0)
only_built (Ok (commands.Tamper common shifts)) = Ok (commands.Tamper common shifts)
only_built (Ok (commands.Tree common low high)) = Ok (commands.Tree common low high)
only_built (Ok (commands.Groups common groups)) = Ok (commands.Groups common groups)

-- the words begin with the name of a command that is not built yet
abbrev pub begin_unbuilt : List (List ℕ) → Bool
begin_unbuilt [] = false
begin_unbuilt (word ∷ words) = is_unbuilt word

-- the command that the words say, or why they are refused; a command that is not built yet is an unknown one, whatever stands behind it
abbrev pub command_in : List (List ℕ) → Result Command WordFault
command_in words = if begin_unbuilt words then Err (Word 0) else only_built (command_of words)

-- a command that is built
abbrev pub IsBuilt : Command → Type 0
IsBuilt (commands.Ask common) = ⊤
IsBuilt (commands.Replay common schedule) = ⊤
IsBuilt (commands.Make common number rows) = ⊤
IsBuilt (commands.Trace common) = ⊤
IsBuilt (commands.Race common writers askers rounds) = ⊥
IsBuilt (commands.Tamper common shifts) = ⊤
IsBuilt (commands.Tree common low high) = ⊤
IsBuilt (commands.Groups common groups) = ⊤
