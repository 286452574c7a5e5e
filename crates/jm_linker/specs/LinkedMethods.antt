-- The linked methods beside the program's, before it is known that the program loads.
use Rattle.std.specs.Prelude.{◌≡◌, ℕ, List, ◌++◌, Some, map, option_map, slice_get}
use Rattle.std.specs.List.{AllByRecursion}
use Rattle.jm_program.specs.Fits.{Fits}
use Rattle.jm_program.specs.Flags.{is_synchronized}
use Rattle.jm_program.specs.declared.class.ClassParts.{ClassParts}
use Rattle.jm_program.specs.declared.class.Method.{Method}
use Rattle.jm_program.specs.declared.code.Code.{Code}
use Rattle.jm_world.specs.Classes.{FoundMethod}
use Rattle.jm_world.specs.Loading.{main_in}
use Rattle.jm_linked.specs.Kinds.{kind_of}
use Rattle.jm_linked.specs.Links.{AllLinkIn, CatchesClass, coded_among, coded_from, handler_in, place_of}
use Rattle.jm_linked.specs.declared.method.LinkedMethod.{LinkedMethod}

-- the linked method of a method with that code, of that number of a class of that number and that name
pub record LinksCode (program : List ClassParts) (class member : ℕ) (name : List ℕ) (method : Method) (code : Code) (m : LinkedMethod) : Type 0 where
  pub class_is : m.class ≡ class
  pub member_is : m.member ≡ member
  pub parameters : m.parameters ≡ map kind_of method.descriptor.parameters
  pub result : m.result ≡ option_map kind_of method.descriptor.return_type
  pub synchronized : m.is_synchronized ≡ is_synchronized method.flags
  pub max_stack : m.max_stack ≡ code.max_stack
  pub max_locals : m.max_locals ≡ code.max_locals
  pub instructions : AllLinkIn program name m.code code.instructions
  pub handlers : map (handler_in program) m.handlers ≡ code.handlers
  pub catch_types : AllByRecursion (CatchesClass program) m.handlers

-- the linked method of a method of the program
pub record LinksAlone (program : List ClassParts) (m : LinkedMethod) : Type 0 where
  pub class : ClassParts
  pub fits : Fits class
  pub class_is : slice_get program m.class ≡ Some class
  pub method : Method
  pub method_is : slice_get class.methods m.member ≡ Some method
  pub code : Code
  pub code_is : method.code ≡ Some code
  pub links : LinksCode program m.class m.member class.name method code m

-- the methods with code of a class come behind others
pub record LinksClass (program : List ClassParts) (class : ℕ) (methods : List Method) (old new : List LinkedMethod) : Type 0 where
  pub places : map place_of new ≡ map place_of old ++ coded_among class 0 methods
  pub linked : AllByRecursion (LinksAlone program) old → AllByRecursion (LinksAlone program) new

-- the first class's main has the number among the methods with code
pub record NumbersMain (program : List ClassParts) (n : ℕ) : Type 0 where
  pub found : FoundMethod
  pub found_is : main_in program ≡ Some found
  pub member : ℕ
  pub place : slice_get (coded_from 0 program) n ≡ Some (0, member)
  pub class_is : slice_get program 0 ≡ Some found.class
  pub method_is : slice_get found.class.methods member ≡ Some found.method
