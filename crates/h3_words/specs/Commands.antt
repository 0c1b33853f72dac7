-- The commands, and the command line that is given to `clap`.
use Rattle.std.specs.Prelude.{Bool, ℕ, ℤ, pos, List, [], ◌∷◌, ◌++◌, Option, None, map, find, slice_get, option_and_then, true, codes}
use Rattle.std.specs.List.{list_any}
use Rattle.std.specs.Str.{bytes_eq}
use Rattle.clap.specs.Words.{App, Shape, Text}
use Rattle.clap.specs.Simple.{new_shape}
use Rattle.clap.specs.Walk.{is_empty}
use Rattle.h3_words.specs.Options.{id_of, rule_for}
use Rattle.h3_requests.specs.declared.command.IndexFunction.TheVariants as function
use Rattle.h3_requests.specs.declared.command.Command.{Command}
use Rattle.h3_requests.specs.declared.command.Command.TheVariants as command
use Rattle.h3_words.specs.declared.options.CommandOption.{CommandOption}
use Rattle.h3_words.specs.declared.options.CommandOption.TheVariants as option

-- commands: a command of each name, with blank values, in the order in which `clap` is given them
abbrev pub commands : List Command
commands =
    command.ForOne function.IsValidCell None ∷
    command.ForOne function.GetResolution None ∷
    command.ForOne function.GetBaseCellNumber None ∷
    command.ForOne function.IsPentagon None ∷
    command.ForOne function.IsResClassIII None ∷
    command.GetNumCells (pos 0) ∷
    command.GetRes0Cells ∷
    command.GetPentagons (pos 0) ∷
    command.ForOne (function.CellToParent (pos 0)) None ∷
    command.ForOne (function.CellToCenterChild (pos 0)) None ∷
    command.ForOne (function.CellToLastChild (pos 0)) None ∷
    command.CellToChildren None (pos 0) ∷
    command.ForOne (function.CellToChildrenSize (pos 0)) None ∷
    command.ForOne (function.CellToChildPos (pos 0)) None ∷
    command.ChildPosToCell 0 None (pos 0) ∷
    command.CompactCells ∷
    command.UncompactCells (pos 0) ∷
    command.UncompactCellsSize (pos 0) ∷
    command.UniteCells ∷
    command.IntersectCells ∷
    command.SubtractCells ∷
    command.AreCoveredCells ∷
    command.CellsToZones ∷
    command.CountCellsInZones ∷
    command.CountCellsInParents (pos 0) ∷
    command.GridDiskUnsafe None (pos 0) ∷
    command.GridDiskDistancesUnsafe None (pos 0) ∷
    command.GridRingUnsafe None (pos 0) ∷
    command.AreNeighborCells None None ∷
    command.CellsToDirectedEdge None None ∷
    command.ForOne function.IsValidDirectedEdge None ∷
    command.ForOne function.GetDirectedEdgeOrigin None ∷
    command.GetDirectedEdgeDestination None ∷
    command.ForOne function.OriginToDirectedEdges None ∷
    command.ForEach function.IsValidCell ∷
    command.ForEach function.IsValidDirectedEdge ∷
    command.ForEach function.GetResolution ∷
    command.ForEach function.GetBaseCellNumber ∷
    command.ForEach function.IsPentagon ∷
    command.ForEach function.IsResClassIII ∷
    command.ForEach (function.CellToParent (pos 0)) ∷
    command.ForEach (function.CellToCenterChild (pos 0)) ∷
    command.ForEach (function.CellToLastChild (pos 0)) ∷
    command.CellsToChildren (pos 0) ∷
    command.ForEach (function.CellToChildrenSize (pos 0)) ∷
    command.ForEach (function.CellToChildPos (pos 0)) ∷
    command.GridDisksUnsafe (pos 0) ∷
    command.GridDisksDistancesUnsafe (pos 0) ∷
    command.GridRingsUnsafe (pos 0) ∷
    command.ForEach function.GetDirectedEdgeOrigin ∷
    command.GetDirectedEdgeDestinations ∷
    command.ForEach function.OriginToDirectedEdges ∷
    []

-- the value that a command has for an option: an index or none, or a number
pub data Value : Type 0 where
  Index : CommandOption → Option ℕ → Value
  Number : CommandOption → ℤ → Value

-- the option that the value is for
abbrev pub option_of : Value → CommandOption
option_of (Index o index) = o
option_of (Number o number) = o

-- how a command is asked for: its word, the values that it has for its options, and the options that it has beside
-- those
pub record Call : Type 0 where
  pub word : Text
  pub values : List Value
  pub others : List CommandOption

-- the options of each command that answers about its list as a whole: how its rows are read
abbrev pub list_options : List CommandOption
list_options = option.Field ∷ option.Column ∷ option.Header ∷ option.Separator ∷ option.Csv ∷ option.Ragged ∷ []

-- the options of each command that answers its list line by line: how its rows are read and written
abbrev pub line_options : List CommandOption
line_options =
    option.Field ∷ option.Column ∷ option.Header ∷ option.Separator ∷ option.Csv ∷ option.As ∷ option.KeepGoing
    ∷ option.Errors ∷ option.Ragged ∷ []

-- the options of each command about a region: its file, and how the rows of that are read if it is a table
abbrev pub region_options : List CommandOption
region_options = option.Region ∷ option.RegionColumn ∷ option.RegionField ∷ []

-- the same of zones
abbrev pub zone_options : List CommandOption
zone_options = option.Zones ∷ option.ZoneColumn ∷ option.ZoneField ∷ []

-- the options of a command that may answer by the names of zones: which field of their table has these, and what is the
-- answer to a cell in no zone
abbrev pub name_options : List CommandOption
name_options = option.ZoneName ∷ option.ZoneNameField ∷ option.NoZone ∷ []

-- the options of a command that may add up a field of its list's rows
abbrev pub sum_options : List CommandOption
sum_options = option.Sum ∷ option.SumField ∷ []

-- the options of a command that may answer with one list for each value of a field of its list's rows
abbrev pub by_options : List CommandOption
by_options = option.By ∷ option.ByField ∷ []

-- call_of command: the word of a `Command`, the values that it has for its options, and its other options
abbrev pub call_of : Command → Call
call_of (command.ForOne function.IsValidCell cell) =
    record { word = codes "isValidCell"; values = Index option.Cell cell ∷ []; others = [] }
call_of (command.ForOne function.GetResolution cell) =
    record { word = codes "getResolution"; values = Index option.Cell cell ∷ []; others = [] }
call_of (command.ForOne function.GetBaseCellNumber cell) =
    record { word = codes "getBaseCellNumber"; values = Index option.Cell cell ∷ []; others = [] }
call_of (command.ForOne function.IsPentagon cell) =
    record { word = codes "isPentagon"; values = Index option.Cell cell ∷ []; others = [] }
call_of (command.ForOne function.IsResClassIII cell) =
    record { word = codes "isResClassIII"; values = Index option.Cell cell ∷ []; others = [] }
call_of (command.GetNumCells res) =
    record { word = codes "getNumCells"; values = Number option.Resolution res ∷ []; others = [] }
call_of command.GetRes0Cells = record { word = codes "getRes0Cells"; values = []; others = [] }
call_of (command.GetPentagons res) =
    record { word = codes "getPentagons"; values = Number option.Resolution res ∷ []; others = [] }
call_of (command.ForOne (function.CellToParent res) cell) =
    record {
      word = codes "cellToParent";
      values = Index option.Cell cell ∷ Number option.Resolution res ∷ [];
      others = [];
    }
call_of (command.ForOne (function.CellToCenterChild res) cell) =
    record {
      word = codes "cellToCenterChild";
      values = Index option.Cell cell ∷ Number option.Resolution res ∷ [];
      others = [];
    }
call_of (command.ForOne (function.CellToLastChild res) cell) =
    record {
      word = codes "cellToLastChild";
      values = Index option.Cell cell ∷ Number option.Resolution res ∷ [];
      others = [];
    }
call_of (command.CellToChildren cell res) =
    record {
      word = codes "cellToChildren";
      values = Index option.Cell cell ∷ Number option.Resolution res ∷ [];
      others = [];
    }
call_of (command.ForOne (function.CellToChildrenSize res) cell) =
    record {
      word = codes "cellToChildrenSize";
      values = Index option.Cell cell ∷ Number option.Resolution res ∷ [];
      others = [];
    }
call_of (command.ForOne (function.CellToChildPos res) cell) =
    record {
      word = codes "cellToChildPos";
      values = Index option.Cell cell ∷ Number option.Resolution res ∷ [];
      others = [];
    }
call_of (command.ChildPosToCell position cell res) =
    record {
      word = codes "childPosToCell";
      values = Number option.Position (pos position) ∷ Index option.Cell cell ∷ Number option.Resolution res ∷ [];
      others = [];
    }
call_of command.CompactCells = record { word = codes "compactCells"; values = []; others = by_options ++ list_options }
call_of (command.UncompactCells res) =
    record {
      word = codes "uncompactCells";
      values = Number option.Resolution res ∷ [];
      others = by_options ++ list_options;
    }
call_of (command.UncompactCellsSize res) =
    record { word = codes "uncompactCellsSize"; values = Number option.Resolution res ∷ []; others = list_options }
call_of command.UniteCells = record { word = codes "uniteCells"; values = []; others = by_options ++ list_options }
call_of command.IntersectCells =
    record { word = codes "intersectCells"; values = []; others = region_options ++ by_options ++ list_options }
call_of command.SubtractCells =
    record { word = codes "subtractCells"; values = []; others = region_options ++ by_options ++ list_options }
call_of command.AreCoveredCells =
    record { word = codes "areCoveredCells"; values = []; others = region_options ++ line_options }
call_of command.CellsToZones =
    record {
      word = codes "cellsToZones";
      values = [];
      others = zone_options ++ name_options ++ option.Overlapping ∷ line_options;
    }
call_of command.CountCellsInZones =
    record {
      word = codes "countCellsInZones";
      values = [];
      others = zone_options ++ name_options ++ option.Overlapping ∷ sum_options ++ list_options;
    }
call_of (command.CountCellsInParents res) =
    record {
      word = codes "countCellsInParents";
      values = Number option.Resolution res ∷ [];
      others = sum_options ++ list_options;
    }
call_of (command.GridDiskUnsafe cell k) =
    record {
      word = codes "gridDiskUnsafe";
      values = Index option.Cell cell ∷ Number option.Radius k ∷ [];
      others = option.Table ∷ [];
    }
call_of (command.GridDiskDistancesUnsafe cell k) =
    record {
      word = codes "gridDiskDistancesUnsafe";
      values = Index option.Cell cell ∷ Number option.Radius k ∷ [];
      others = option.Table ∷ [];
    }
call_of (command.GridRingUnsafe cell k) =
    record {
      word = codes "gridRingUnsafe";
      values = Index option.Cell cell ∷ Number option.Radius k ∷ [];
      others = option.Table ∷ [];
    }
call_of (command.AreNeighborCells cell to) =
    record {
      word = codes "areNeighborCells";
      values = Index option.Cell cell ∷ Index option.To to ∷ [];
      others = option.Table ∷ [];
    }
call_of (command.CellsToDirectedEdge cell to) =
    record {
      word = codes "cellsToDirectedEdge";
      values = Index option.Cell cell ∷ Index option.To to ∷ [];
      others = option.Table ∷ [];
    }
call_of (command.ForOne function.IsValidDirectedEdge edge) =
    record { word = codes "isValidDirectedEdge"; values = Index option.Edge edge ∷ []; others = [] }
call_of (command.ForOne function.GetDirectedEdgeOrigin edge) =
    record { word = codes "getDirectedEdgeOrigin"; values = Index option.Edge edge ∷ []; others = [] }
call_of (command.GetDirectedEdgeDestination edge) =
    record {
      word = codes "getDirectedEdgeDestination";
      values = Index option.Edge edge ∷ [];
      others = option.Table ∷ [];
    }
call_of (command.ForOne function.OriginToDirectedEdges cell) =
    record { word = codes "originToDirectedEdges"; values = Index option.Cell cell ∷ []; others = [] }
call_of (command.ForEach function.IsValidCell) =
    record { word = codes "areValidCells"; values = []; others = line_options }
call_of (command.ForEach function.IsValidDirectedEdge) =
    record { word = codes "areValidDirectedEdges"; values = []; others = line_options }
call_of (command.ForEach function.GetResolution) =
    record { word = codes "getResolutions"; values = []; others = line_options }
call_of (command.ForEach function.GetBaseCellNumber) =
    record { word = codes "getBaseCellNumbers"; values = []; others = line_options }
call_of (command.ForEach function.IsPentagon) =
    record { word = codes "arePentagons"; values = []; others = line_options }
call_of (command.ForEach function.IsResClassIII) =
    record { word = codes "areResClassIII"; values = []; others = line_options }
call_of (command.ForEach (function.CellToParent res)) =
    record { word = codes "cellsToParents"; values = Number option.Resolution res ∷ []; others = line_options }
call_of (command.ForEach (function.CellToCenterChild res)) =
    record { word = codes "cellsToCenterChildren"; values = Number option.Resolution res ∷ []; others = line_options }
call_of (command.ForEach (function.CellToLastChild res)) =
    record { word = codes "cellsToLastChildren"; values = Number option.Resolution res ∷ []; others = line_options }
call_of (command.ForEach (function.CellToChildrenSize res)) =
    record { word = codes "cellsToChildrenSizes"; values = Number option.Resolution res ∷ []; others = line_options }
call_of (command.ForEach (function.CellToChildPos res)) =
    record { word = codes "cellsToChildPositions"; values = Number option.Resolution res ∷ []; others = line_options }
call_of (command.ForEach function.GetDirectedEdgeOrigin) =
    record { word = codes "getDirectedEdgeOrigins"; values = []; others = line_options }
call_of (command.ForEach function.OriginToDirectedEdges) =
    record { word = codes "originsToDirectedEdges"; values = []; others = line_options }
call_of (command.CellsToChildren res) =
    record { word = codes "cellsToChildren"; values = Number option.Resolution res ∷ []; others = line_options }
call_of (command.GridDisksUnsafe k) =
    record {
      word = codes "gridDisksUnsafe";
      values = Number option.Radius k ∷ [];
      others = option.Table ∷ line_options;
    }
call_of (command.GridDisksDistancesUnsafe k) =
    record {
      word = codes "gridDisksDistancesUnsafe";
      values = Number option.Radius k ∷ [];
      others = option.Table ∷ line_options;
    }
call_of (command.GridRingsUnsafe k) =
    record {
      word = codes "gridRingsUnsafe";
      values = Number option.Radius k ∷ [];
      others = option.Table ∷ line_options;
    }
call_of command.GetDirectedEdgeDestinations =
    record { word = codes "getDirectedEdgeDestinations"; values = []; others = option.Table ∷ line_options }

-- a command's word and its options
pub record Entry : Type 0 where
  pub word : Text
  pub options : List CommandOption

-- the entry of a command of this call
abbrev pub entry_of_call : Call → Entry
entry_of_call call = record { word = call.word; options = map option_of call.values ++ call.others }

-- entry_of command: the word that names a command, and its options
abbrev pub entry_of : Command → Entry
entry_of c = entry_of_call (call_of c)

-- the word that names the command
abbrev pub word_of : Command → Text
word_of c = (entry_of c).word

-- the options that the command has
abbrev pub options_of : Command → List CommandOption
options_of c = (entry_of c).options

-- the command has the option; options are compared by their ids
abbrev pub has_option : Command → CommandOption → Bool
has_option k o = list_any (λ x. bytes_eq (id_of x) (id_of o)) (options_of k)

-- the values that a command has for its options
abbrev pub values_of_command : Command → List Value
values_of_command c = (call_of c).values

-- a command of this name that has these options
abbrev pub leaf_with : Text → List CommandOption → Shape
leaf_with name os = record (new_shape name) { rules = map rule_for os }

-- the command as it is given to `clap`
abbrev pub shape_for : Command → Shape
shape_for k = leaf_with (word_of k) (options_of k)

-- app_with commands: the command line that has these commands, as `clap` takes it
abbrev pub app_with : List Command → App
app_with ks = record {
  top = record (new_shape (codes "h3")) {
    subcommand_required = true;
    disable_help_subcommand = true;
    is_leaf = is_empty ks;
  };
  subs = map shape_for ks;
}

-- app: the whole command line as `clap` takes it
abbrev pub app : App
app = app_with commands

-- command_of words: the command that the word after the program's name names, if it names one, with blank values
abbrev pub command_of : List Text → Option Command
command_of words = option_and_then (λ word. find (λ k. bytes_eq (word_of k) word) commands) (slice_get words 1)
