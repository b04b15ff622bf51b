mod ArrayItems
mod Begins
mod Behind
mod EffectTurns
pub mod Keeps
mod Listing
pub mod NameLaws
pub mod Written
pub mod Beginnings
pub mod Followers
pub mod Repeats
pub mod NameReads
pub mod Loops
pub mod Steps
pub mod Asked
pub mod Arguments
pub mod Creations
pub mod Parentheses
pub mod Operands
pub mod Chains
pub mod Climbs
pub mod Initializers
pub mod ExprReads
pub mod Free
pub mod FreeReads
pub mod EffectReads
pub mod EffectFronts
pub mod Readings
pub mod Locals
pub mod NameLocals
pub mod ExprLocals
pub mod LevelLocals
pub mod AllLocals
pub mod Growths
pub mod NameGrowths
pub mod PartGrowths
pub mod CreationGrowths
pub mod ParenGrowths
pub mod OperandGrowths
pub mod LevelGrowths
pub mod AllGrowths
pub mod EffectGrowths
pub mod EffectChains
pub mod EffectLocals
pub mod EffectStuck
pub mod Stuck
pub mod Rules
pub mod Rooms
pub mod Shorter
mod Turning
