-- What the words after the program's name ask for.
use Rattle.std.specs.Prelude.{ℕ, true, false, ◌&&◌, ◌||◌, nat_le, List, [], ◌∷◌, length, take, drop, Option, None, Some, is_some, unwrap_or, option_and_then, codes, if◌then◌else◌}
use Rattle.std.specs.Str.{bytes_eq}
use Rattle.worker_script.specs.declared.asked.Flags.{Flags}
use Rattle.worker_script.specs.Values.{is_number, value}
use Rattle.worker_script.specs.Options.{no_flags, with_flag, tables_of}
use Rattle.opendb_run.specs.declared.words.Options.{Options}
use Rattle.opendb_run.specs.declared.words.Command.{Command}
use Rattle.opendb_run.specs.declared.words.Command.TheVariants.{Run, SmbStatus}
use Rattle.opendb_run.specs.declared.words.TheConstants.{DEFAULT_CHAINS, MAX_CHAINS}

abbrev pub no_options : Options
no_options = record { chains = None; flags = no_flags; awaits = false }

-- the number of chains of each database, once: 1 to 5 digits
unfoldable pub with_chains : Options → List ℕ → Option Options
with_chains options digits =
    if nat_le (length digits) 5 && is_number 1 MAX_CHAINS digits && (if is_some options.chains then false else true)
    then Some (record options { chains = Some (value digits); awaits = false }) else None

abbrev pub with_flags : Options → Option Flags → Option Options
with_flags options None = None
with_flags options (Some flags) = Some (record options { flags = flags })

-- `--chains=N`, or a flag
abbrev pub with_option : Options → List ℕ → Option Options
with_option options word =
    if bytes_eq (take 9 word) (codes "--chains=") then with_chains options (drop 9 word) else with_flags options (with_flag options.flags word)

-- One word more. Behind `--chains` stands its number.
unfoldable pub with_word : Options → List ℕ → Option Options
with_word options word =
    if options.awaits then with_chains options word
    else if bytes_eq word (codes "--chains") then Some (record options { awaits = true })
    else with_option options word

-- the options that these words add, where each is one
abbrev pub options_in : Options → List (List ℕ) → Option Options
options_in options [] = if options.awaits then None else Some options
options_in options (word ∷ words) = option_and_then (λ with_it. options_in with_it words) (with_word options word)

abbrev pub chains_of : Options → ℕ
chains_of options = unwrap_or options.chains DEFAULT_CHAINS

-- `run` has no flags
abbrev pub run_with : Options → Option Command
run_with options =
    if options.flags.shares || options.flags.files || options.flags.ranges then None else Some (Run (chains_of options))

abbrev pub show_with : Options → Option Command
show_with options = Some (SmbStatus (tables_of options.flags) (chains_of options))

-- the command, or none where the words aren't those of one
abbrev pub command : List (List ℕ) → Option Command
command [] = None
command (word ∷ words) =
    if bytes_eq word (codes "run") then option_and_then run_with (options_in no_options words)
    else if bytes_eq word (codes "smbstatus") then option_and_then show_with (options_in no_options words)
    else None
