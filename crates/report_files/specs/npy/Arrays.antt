-- Arrays of one axis whose elements are whole numbers, and what reading a file gives.
use Rattle.std.specs.Prelude.{◌≡◌, ◌≢◌, ◌<◌, ◌⊎◌, ℕ, ◌+◌, ◌*◌, ◌^◌, ◌==◌, ◌++◌, List, length, map, find, not, nat_lt, codes, slice_range, Bool, Option, Some, None, Result, Ok, Err, if◌then◌else◌}
use Rattle.std.specs.Int.{Width, w8, w16, w32, w64, byte_len, from_le_bytes}
use Rattle.std.specs.Fmt.{decimal}
use Rattle.std.specs.List.{range_with_len}
use Rattle.report_files.specs.declared.npy.element.Element.{Element}
use Rattle.report_files.specs.declared.npy.element.Element.TheVariants.{U8, U16, U32, U64, I32, I64}
use Rattle.report_files.specs.declared.npy.fault.NpyFault.{NpyFault}
use Rattle.report_files.specs.declared.npy.fault.NpyFault.TheVariants.{Magic, Version as BadVersion, Header, Kind, Shape, Length, Value}
use Rattle.report_files.specs.npy.Files.{magic, IsFile, HasVersion}
use Rattle.report_files.specs.npy.Headers.{IsHeader}

-- how NumPy calls the type: of unsigned or signed numbers, of so many bytes, the lowest first
abbrev pub kind_text : Element → List ℕ
kind_text U8 = codes "|u1"
kind_text U16 = codes "<u2"
kind_text U32 = codes "<u4"
kind_text U64 = codes "<u8"
kind_text I32 = codes "<i4"
kind_text I64 = codes "<i8"

-- how many bits an element has
abbrev pub width : Element → Width
width U8 = w8
width U16 = w16
width U32 = w32
width U64 = w64
width I32 = w32
width I64 = w64

-- how many bytes an element has
abbrev pub size : Element → ℕ
size element = byte_len (width element)

-- the shape of so many elements on one axis: a tuple of Python with one number
abbrev pub shape_text : ℕ → List ℕ
shape_text count = decimal count ++ codes ","

-- the bytes of the element at a place, as a number without sign
abbrev pub number_at : Element → List ℕ → ℕ → ℕ
number_at element body place = from_le_bytes (width element) (slice_range body (size element * place) (size element * place + size element))

-- numbers below this one are values: the bytes of a negative number of n bits say 2 ^ (n - 1) or more
abbrev pub value_bound : Element → ℕ
value_bound I32 = 2 ^ 31
value_bound element = 2 ^ 32

-- whether the element at a place is no value
abbrev pub is_misfit : Element → List ℕ → ℕ → Bool
is_misfit element body place = not (nat_lt (number_at element body place) (value_bound element))

-- the values of so many elements
abbrev pub values : Element → ℕ → List ℕ → List ℕ
values element count body = map (number_at element body) (range_with_len 0 count)

-- these values, unless an element is none
abbrev pub unless : Option ℕ → List ℕ → Result (List ℕ) NpyFault
unless None words = Ok words
unless (Some place) words = Err (Value place)

-- what an array of so many elements gives, of which these are the bytes
abbrev pub verdict : Element → ℕ → List ℕ → Result (List ℕ) NpyFault
verdict element count body =
    if length body == size element * count
    then unless (find (is_misfit element body) (range_with_len 0 count)) (values element count body)
    else Err (Length (size element * count) (length body))

-- bytes are a file whose header tells of a type and a shape by these words, and these bytes stand after it
pub record HasHeader (bytes kind shape body : List ℕ) : Type 0 where
  pub header : List ℕ
  pub file : IsFile bytes header body
  pub words : IsHeader header kind shape

-- bytes are the file of an array with one axis
pub record IsArray (bytes : List ℕ) (element : Element) (count : ℕ) (body : List ℕ) : Type 0 where
  pub few : count < 2 ^ 32
  pub whole : HasHeader bytes (kind_text element) (shape_text count) body

-- the file of an array with one axis, of which this is the verdict
pub record HasVerdict (bytes : List ℕ) (answer : Result (List ℕ) NpyFault) : Type 0 where
  pub element : Element
  pub count : ℕ
  pub body : List ℕ
  pub array : IsArray bytes element count body
  pub same : verdict element count body ≡ answer

-- the type is none of those that are read
pub record IsOtherKind (bytes : List ℕ) : Type 0 where
  pub kind : List ℕ
  pub shape : List ℕ
  pub body : List ℕ
  pub whole : HasHeader bytes kind shape body
  pub other : (element : Element) → kind ≢ kind_text element

-- the type is one of those that are read, and the shape is not that of one axis, or of one that is too long
pub record IsOtherShape (bytes : List ℕ) : Type 0 where
  pub element : Element
  pub shape : List ℕ
  pub body : List ℕ
  pub whole : HasHeader bytes (kind_text element) shape body
  pub other : (count : ℕ) → count < 2 ^ 32 → shape ≢ shape_text count

-- why bytes are no file of an array with one axis whose type is read
abbrev pub IsNoArray : List ℕ → NpyFault → Type 0
IsNoArray bytes Magic = (rest : List ℕ) → bytes ≢ magic ++ rest
IsNoArray bytes BadVersion = ((rest : List ℕ) × (bytes ≡ magic ++ rest)) × (HasVersion bytes → ⊥)
IsNoArray bytes Header = HasVersion bytes × ((kind shape body : List ℕ) → HasHeader bytes kind shape body → ⊥)
IsNoArray bytes Kind = IsOtherKind bytes
IsNoArray bytes Shape = IsOtherShape bytes
IsNoArray bytes fault = ⊥

-- what reading bytes gives, where memory suffices
abbrev pub IsReading : List ℕ → Result (List ℕ) NpyFault → Type 0
IsReading bytes (Ok words) = HasVerdict bytes (Ok words)
IsReading bytes (Err fault) = IsNoArray bytes fault ⊎ HasVerdict bytes (Err fault)
