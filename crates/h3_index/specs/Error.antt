-- H3's table of error codes: the number and the name of each error that calls here return, and of out of memory.
use Rattle.std.specs.Prelude.{ℕ, List, codes}
use Rattle.h3_index.specs.declared.error.H3Error.{H3Error}
use Rattle.h3_index.specs.declared.error.H3Error.TheVariants.{Failed, Domain, ResDomain, CellInvalid, DirEdgeInvalid, Pentagon, DuplicateInput, NotNeighbors, ResMismatch, MemoryAlloc}

-- error_number e: the error's number in H3's table of error codes
abbrev pub error_number : H3Error → ℕ
error_number Failed = 1
error_number Domain = 2
error_number ResDomain = 4
error_number CellInvalid = 5
error_number DirEdgeInvalid = 6
error_number Pentagon = 9
error_number DuplicateInput = 10
error_number NotNeighbors = 11
error_number ResMismatch = 12
error_number MemoryAlloc = 13

-- error_name e: its name there
abbrev pub error_name : H3Error → List ℕ
error_name Failed = codes "E_FAILED"
error_name Domain = codes "E_DOMAIN"
error_name ResDomain = codes "E_RES_DOMAIN"
error_name CellInvalid = codes "E_CELL_INVALID"
error_name DirEdgeInvalid = codes "E_DIR_EDGE_INVALID"
error_name Pentagon = codes "E_PENTAGON"
error_name DuplicateInput = codes "E_DUPLICATE_INPUT"
error_name NotNeighbors = codes "E_NOT_NEIGHBORS"
error_name ResMismatch = codes "E_RES_MISMATCH"
error_name MemoryAlloc = codes "E_MEMORY_ALLOC"
