mod Arguments
mod Labels
mod PoppedWords
mod ReachedFrames
mod SameSorts
mod TransferLists
